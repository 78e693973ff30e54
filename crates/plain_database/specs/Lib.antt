-- The definitions in reading order: tables between requests; how a database is stored; what an update makes of one table;
-- what is left of a request that memory was refused to; and rows that stand at their items' keys.
pub mod Sound
pub mod Codes
pub mod Changed
pub mod Left
pub mod Keyed
