-- Lemmas: rows in order, and full pages.
pub mod Ordered
pub mod Ends
pub mod Full
