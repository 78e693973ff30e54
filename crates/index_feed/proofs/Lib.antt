pub mod Overlays
pub mod Queued
pub mod Arranged
pub mod Kept
pub mod Feeding
pub mod Growing
pub mod Always
mod Worked
pub mod Local
pub mod Homes
