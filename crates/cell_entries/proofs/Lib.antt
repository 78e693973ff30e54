pub mod Entered
pub mod Parts
pub mod Among
pub mod Rows
pub mod Walks
