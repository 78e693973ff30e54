pub mod Walked
pub mod Entries
pub mod Ranged
pub mod Replies
