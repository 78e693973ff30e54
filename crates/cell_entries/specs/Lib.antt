-- The definitions in reading order: an item's entries; what commands leave of them; the rows that they stand for.
pub mod LocalEntries
pub mod EntryLaws
pub mod Met
