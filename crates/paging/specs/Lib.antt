-- The definitions in reading order: pages of lists and what a page may still take; the rows of a walk, and those of a
-- range of a map.
pub mod Page
pub mod Room
pub mod Rows
pub mod MapRange
