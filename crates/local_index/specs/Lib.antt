-- The definitions in reading order: what an entry stands for, the entries of a table, those of all tables of a
-- cell, and that they are those of the items.
pub mod Claims
pub mod Entries
pub mod Tables
pub mod Items
