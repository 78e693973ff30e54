-- The definitions in reading order: what a command came to, and what a question came to; replies by what is told.
pub mod Commands
pub mod Questions
pub mod Replies
