-- The definitions in reading order: the slot of an item; the slots of a table, and of all tables; the counts of a cell;
-- what the end of a transaction leaves; what tables have at a key; and what a call changes.
pub mod Slots
pub mod Maps
pub mod Counts
pub mod Ends
pub mod Tables
pub mod Changes
