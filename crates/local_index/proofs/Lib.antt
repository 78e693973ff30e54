pub mod Claims
pub mod Alike
pub mod Changed
pub mod Kept
