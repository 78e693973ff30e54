-- Read Upkeep first: what helpers do to the one history. Then Passes: what contracts see of them.
pub mod Upkeep
pub mod Passes
