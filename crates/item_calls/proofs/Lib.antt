pub mod Trails
pub mod Places
pub mod Requests
pub mod Tries
pub mod Held
