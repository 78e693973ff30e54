pub mod Turned
pub mod Wrote
