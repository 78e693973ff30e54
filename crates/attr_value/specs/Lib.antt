-- The definitions in reading order: values as trees, and how a value is seen as one; equality and order; sizes and depths;
-- document paths; items part by part. `Codes` and `Falls` are what the type of values needs to be seen so.
pub mod Tree
pub mod View
pub mod Codes
pub mod Falls
pub mod Equality
pub mod EqualityLaws
pub mod Sizes
pub mod Paths
pub mod Parts
