-- The definitions in reading order: when a driven transaction is at its end; expirations; what the cells list; and a sweep with its parts.
pub mod Ends
pub mod Expiries
pub mod Lists
pub mod Parts
pub mod Sweeps
