pub mod Steps
pub mod Readings
pub mod Unique
pub mod Fits
pub mod Spans
pub mod Spelling
pub mod Longest
