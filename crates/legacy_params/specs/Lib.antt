-- The definitions in reading order: words; what tests and changes ask; their faults; the trees that they stand for, and what
-- is answered; and the expressions that took their place, as words and as bytes, with an example of each form.
pub mod Operators
pub mod Tests
pub mod Changes
pub mod Faults
pub mod Trees
pub mod Answers
pub mod Drafts
pub mod Texts
pub mod Sentences
pub mod Spelled
pub mod Worked
