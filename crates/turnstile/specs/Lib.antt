-- The definitions in reading order: histories; the table of words behind the turns and its steps; what callers see of passes,
-- values and what a turn lends.
pub mod Histories
pub mod Kept
pub mod Steps
pub mod Passes
pub mod Values
pub mod Lending
pub mod LendingOne
