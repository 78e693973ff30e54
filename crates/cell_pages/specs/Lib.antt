-- An item entered into an index, the rows that a page is asked for, and those of an ordered map.
pub mod Entered
pub mod Asked
pub mod Walked
