-- The definitions in reading order: events, for which the cells stand; the one history as a world of turns; one message at its cell;
-- and what a step, a close and a command add to the history.
pub mod Events
pub mod Standing
pub mod World
pub mod Serving
pub mod Steps
pub mod Counts
pub mod Closing
pub mod Commanding
