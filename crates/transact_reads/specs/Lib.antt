-- The definitions in reading order: what a call answers of every database of its tables; what is told of items; what its inner
-- steps find; and which reads nothing refuses.
pub mod Reads
pub mod Told
pub mod Found
pub mod Checked
pub mod Spots
