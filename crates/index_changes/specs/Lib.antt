-- The definitions in reading order: what is prepared for an item, its local entries, and what its change queues for an
-- index; commands of the catalog, and what one will do to a cell: entries and items that come, places, changes to queue.
pub mod Prepared
pub mod Entries
pub mod Expiry
pub mod Index
pub mod Commands
pub mod Entering
pub mod Places
pub mod Plans
pub mod Founding
pub mod Bringing
