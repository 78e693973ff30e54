-- The definitions in reading order: what a session may do to a pass, and which entries it adds; how passes meet.
pub mod PassWays
pub mod OwnEntries
pub mod Meetings
