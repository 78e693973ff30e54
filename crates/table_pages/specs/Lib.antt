-- The definitions in reading order: the rows of a range and the page of them, and what a call on one table says of its reply.
pub mod Ranges
pub mod Asked
