pub mod Adding
pub mod Steps
pub mod Resting
pub mod Rested
pub mod Crossings
