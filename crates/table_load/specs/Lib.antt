-- The definitions in reading order: why a load ends early, what gates answer, what a session of a load sends, rounds of transfers, what is
-- read of the bank, and what a load that is done has done.
pub mod Faults
pub mod Gates
pub mod Sending
pub mod Rounds
pub mod Clients
pub mod Figures
pub mod Loads
