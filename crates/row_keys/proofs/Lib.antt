pub mod Parts
pub mod Bytes
pub mod Ends
pub mod Seconds
