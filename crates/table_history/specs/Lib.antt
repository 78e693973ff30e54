-- The definitions in reading order: entries; the catalogs of histories; what a number stands for; the databases that stand
-- for a history; what commands, single writes and expirations do to them.
pub mod Entries
pub mod KeptHistories
pub mod SameTable
pub mod Standing
pub mod CommandEffects
pub mod WriteEffects
pub mod Expirations
