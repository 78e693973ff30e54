-- The definitions in reading order: capacity units, and examples of them.
pub mod Units
pub mod Worked
