-- The definitions in reading order: what Looks told of several tables, and what they refuse; tables that are known by them; which
-- actions a request states; what is told by the end of their transaction; what comes of actions that are sent; what a try of a
-- request comes to. Then the same of reads: which items they are of, and what a try comes to.
pub mod Looks
pub mod Known
pub mod Stated
pub mod Ends
pub mod Sent
pub mod Transactions
pub mod Targets
pub mod Gets
