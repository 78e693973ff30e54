pub mod Filling
pub mod Chosen
pub mod Begun
