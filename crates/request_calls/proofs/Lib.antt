pub mod Counted
pub mod Trying
pub mod Held
pub mod Causes
pub mod Taken
pub mod Obstacles
pub mod Transacted
pub mod Complete
