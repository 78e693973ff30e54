-- The definitions in reading order: what is kept of transactions and tokens; what decides a Begin; what the cell holds after a
-- history; and what becomes of a command.
pub mod Keeping
pub mod Begins
pub mod Holding
pub mod Plans
