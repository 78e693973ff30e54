pub mod Kept
pub mod Orderless
