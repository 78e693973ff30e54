pub mod Ranges
pub mod Orders
