pub mod Joins
pub mod Beside
pub mod Units
