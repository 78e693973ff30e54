-- The definitions in reading order: what is read, which attributes are chosen by name, where a page begins or why it is refused, and
-- the page as it is filled.
pub mod Sources
pub mod Names
pub mod Starts
pub mod Filled
