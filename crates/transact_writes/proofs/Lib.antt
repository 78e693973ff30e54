pub mod Made
pub mod Checks
pub mod Judging
pub mod Whole
