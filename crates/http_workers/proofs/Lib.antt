pub mod Connections
pub mod Workers
pub mod Seats
pub mod Parts
