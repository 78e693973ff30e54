pub mod Types
pub mod Joined
pub mod Named
