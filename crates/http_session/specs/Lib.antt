-- The definitions in reading order: bodies; one message and its reply; a whole session.
pub mod Answers
pub mod Exchanges
pub mod Sessions
