pub mod Unserved
pub mod Statuses
pub mod Serving
pub mod Clients
