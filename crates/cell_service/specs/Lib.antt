-- The definitions in reading order: what a right reply is; what sessions have seen in the end.
pub mod Right
pub mod Histories
