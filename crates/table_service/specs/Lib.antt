-- The definitions in reading order: what is told; the steps of the plain service.
pub mod Telling
pub mod Plain
