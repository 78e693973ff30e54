-- The definitions in reading order: steps that may fail; sets from their elements; the value that JSON states, or its
-- first fault; the JSON of a value; and what answers and texts have to be.
pub mod Steps
pub mod Sets
pub mod Scalars
pub mod Values
pub mod Written
pub mod ReadBack
pub mod Text
pub mod Answers
pub mod Names
