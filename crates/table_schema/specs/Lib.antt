-- The definitions in reading order: names and kinds; keys and indexes as they are stated; the rules of a schema, and the
-- fault of one that breaks one; what a schema shows; and the names in its keys.
pub mod Name
pub mod NameSet
pub mod Kind
pub mod Key
pub mod KeyName
pub mod Index
pub mod Rule
pub mod Fault
pub mod FaultName
pub mod Indexes
pub mod Stated
