-- The definitions in reading order: trees, and the placeholders that they mention; words and the grammar (`Words`, `Grammar`), which
-- say what an expression is; its faults and marks; and how the parser reads (`Machine` to `Fronts`). Equality of trees comes last.
pub mod Trees
pub mod Given
pub mod Ascending
pub mod Words
pub mod Grammar
pub mod Faults
pub mod Marks
pub mod Functions
pub mod Machine
pub mod Parses
pub mod Fronts
pub mod Equality
pub mod EqualityLaws
pub mod Mentions
