pub mod Picked
pub mod Takes
pub mod Walks
pub mod Sources
