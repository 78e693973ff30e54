-- The definitions in reading order: codes of values; answers with faults; terms; sums; what ADD and DELETE make; where
-- a path has a place; what actions write; the new item. Views has what the code's values stand for.
pub mod Codes
pub mod Answers
pub mod Terms
pub mod Sums
pub mod Changes
pub mod Places
pub mod Actions
pub mod Updated
pub mod Views
