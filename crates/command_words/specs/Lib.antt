-- The definitions in reading order: options with their values; commands; what words state; and how `clap` sees both.
pub mod Settings
pub mod Modes
pub mod States
pub mod Application
