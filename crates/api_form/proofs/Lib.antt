pub mod Clean
pub mod Members
pub mod Walk
