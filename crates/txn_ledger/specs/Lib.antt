-- The definitions in reading order: tokens and records; what a call changes among records and in the whole ledger; and what
-- layers above see of it.
pub mod Tokens
pub mod Records
pub mod Changes
pub mod Ledgers
pub mod Unchanged
pub mod Contents
