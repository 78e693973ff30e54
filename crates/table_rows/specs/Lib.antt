-- The definitions in reading order: what a table shows; its slots; the places of its indexes, how changes move them, how
-- all of it belongs together, and the rows of an index; seconds at which nothing is expired.
pub mod View
pub mod Found
pub mod Slots
pub mod Moves
pub mod Places
pub mod State
pub mod Looked
pub mod Quiet
pub mod Codes
