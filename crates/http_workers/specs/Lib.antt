-- The definitions in reading order: one share; all workers, each with a share; the steps of serving a listener.
pub mod Shares
pub mod Crews
pub mod Steps
