pub mod Orders
pub mod Between
pub mod Ranges
