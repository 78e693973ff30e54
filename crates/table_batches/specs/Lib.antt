-- The definitions in reading order: what requests answer, and what refuses them; keys with their faults; what is read and
-- changed in turn.
pub mod Answers
pub mod Refusals
pub mod Keys
pub mod Reads
pub mod Writes
