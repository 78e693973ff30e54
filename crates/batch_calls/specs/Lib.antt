-- The definitions in reading order: what Looks tell of a request's tables; what is asked for each key and each write alone; what
-- a try comes to. Then what the calls inside say: the tables of Looks and where items are by them; what is added message by message.
pub mod Looks
pub mod Singles
pub mod Batches
pub mod Writes
pub mod Tables
pub mod Steps
