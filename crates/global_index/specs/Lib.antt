-- The definitions in reading order: what waits in an outbox, what a call changes there, the rows of an index, and the marks of what came.
pub mod Outboxes
pub mod Changes
pub mod Rows
pub mod Marks
