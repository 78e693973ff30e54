-- The definitions in reading order: what is made of each action before anything is changed; actions with their numbers and
-- keys; verdicts one after the other; and what a call does.
pub mod Judged
pub mod Aimed
pub mod Verdicts
pub mod Writes
