-- The definitions in reading order: what a call changes in items, holds and local entries (`Stores` to `InStep`); what a message is
-- answered and leaves (`Knows` to `Steps`); keys, pages, pendings and expired items; and commands, planned and carried out.
pub mod Stores
pub mod Holds
pub mod Says
pub mod Changes
pub mod Moves
pub mod InStep
pub mod Knows
pub mod Makes
pub mod Evaluations
pub mod Steps
pub mod Listed
pub mod Pages
pub mod Pendings
pub mod Expiry
pub mod Holders
pub mod Plans
pub mod Carrying
