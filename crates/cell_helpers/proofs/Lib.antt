mod Free
pub mod Kept
pub mod Crossings
