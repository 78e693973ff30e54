-- The definitions in reading order: paths that overlap, and updates as plain data; what a text reads as, with its first
-- fault; what the steps of a call answer; and, for the code alone, drafts of updates, beginnings of parts and what is owed.
pub mod Overlaps
pub mod UpdateTree
pub mod Reading
pub mod Agreement
pub mod Judged
pub mod Update
pub mod Draft
pub mod Met
pub mod Openings
pub mod Arguments
