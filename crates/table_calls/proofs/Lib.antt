pub mod Asked
pub mod NamesTold
pub mod Commanded
pub mod DropTold
pub mod TtlTold
pub mod ChangeTold
pub mod CreateTold
pub mod Kept
