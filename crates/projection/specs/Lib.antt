-- The definitions in reading order: what paths pick.
pub mod Picked
