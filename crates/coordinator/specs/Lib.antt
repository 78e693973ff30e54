-- The definitions in reading order: gates and what a stop counts; how one transaction is driven; and how it is written whole.
pub mod Gates
pub mod Stops
pub mod Driving
pub mod Drives
pub mod Writes
