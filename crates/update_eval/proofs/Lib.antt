pub mod Joining
pub mod ByPath
pub mod Lent
pub mod Apart
pub mod Touched
