-- What requests state of many items, and what was used of tables.
pub mod Batches
pub mod Usage
