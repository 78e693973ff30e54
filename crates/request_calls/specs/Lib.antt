-- The definitions in reading order: what a try of any request comes to; when its reply is that of the tables.
pub mod Requests
pub mod Complete
