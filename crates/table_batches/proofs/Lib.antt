pub mod Gathered
pub mod Named
pub mod Refusals
pub mod Reading
pub mod Pushing
pub mod Repeats
pub mod Writing
pub mod Schemas
