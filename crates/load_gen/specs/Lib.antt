-- The definitions in reading order: who pays whom, what holds of it, the bodies of requests, and examples.
pub mod Accounts
pub mod Transfers
pub mod Bodies
pub mod Worked
