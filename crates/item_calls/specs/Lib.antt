-- The definitions in reading order: where a request's item is; what answers tell; what a try comes to.
pub mod Places
pub mod Answers
pub mod Items
