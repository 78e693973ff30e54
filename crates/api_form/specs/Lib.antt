-- The definitions in reading order: names of members; how texts are spelled; what each form states; and a body's faults, in
-- their one order.
pub mod Names
pub mod Spellings
pub mod Forms
pub mod Faults
