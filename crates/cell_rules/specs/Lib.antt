-- The definitions in reading order: the laws; those of pages; those of entries; what commands do to tables, and their laws.
pub mod Laws
pub mod PageLaws
pub mod Entries
pub mod Targets
pub mod TargetLaws
