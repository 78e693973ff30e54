pub mod Apart
pub mod LeastFault
pub mod Moved
pub mod Readings
pub mod Sentences
pub mod Steps
pub mod Twice
