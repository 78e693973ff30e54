pub mod Weights
pub mod Under
