pub mod Turns
pub mod Progress
