-- The definitions in reading order: what a call on one table says of every database that has the table; the outcome of a
-- write; what inner steps do; and which attributes an update writes, among its paths in order.
pub mod Effects
pub mod Outcomes
pub mod Steps
pub mod Touched
