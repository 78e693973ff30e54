-- The definitions in reading order: what is served at a port; what a load does; what the program does by its words.
pub mod Served
pub mod Loaded
pub mod Programs
