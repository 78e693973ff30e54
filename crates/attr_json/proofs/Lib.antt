pub mod Numbers
pub mod Gathering
pub mod Reading
pub mod Members
pub mod Only
pub mod Loops
pub mod ReadBack
pub mod Faults
