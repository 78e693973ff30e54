mod Counted
pub mod Points
mod Told
mod Units
