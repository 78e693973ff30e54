-- The definitions in reading order: JSON as it is written; kinds of errors and their bodies; what people are told; how
-- tables are described; what batches answer; what was consumed of capacity; the body of every reply, and examples.
pub mod Json
pub mod Kinds
pub mod Errors
pub mod Messages
pub mod Edge
pub mod Descriptions
pub mod Batches
pub mod Capacity
pub mod Bodies
pub mod Worked
