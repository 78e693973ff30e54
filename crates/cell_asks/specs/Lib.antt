-- The definitions in reading order: what one message adds to the history, and what binds a request; which answers there are;
-- what is kept of Looks.
pub mod Steps
pub mod Answers
pub mod Told
