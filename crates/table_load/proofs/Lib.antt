pub mod Tried
pub mod Seen
pub mod Upkept
pub mod Places
pub mod Crossings
