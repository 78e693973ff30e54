-- The definitions in reading order: rows and indexes; the new item of a write; the database; what is used of capacity;
-- and each operation, with the page of the API Reference that it is from.
pub mod Outcome
pub mod Database
pub mod Consumed
pub mod Writes
pub mod Reads
pub mod Batches
pub mod Pages
pub mod Transactions
pub mod Catalog
pub mod Expired
pub mod Effect
pub mod Worked
