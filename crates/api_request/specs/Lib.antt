-- What bodies state, in reading order: each operation; messages.
pub mod Operations
pub mod Catalog
pub mod Schemas
pub mod Items
pub mod Pages
pub mod Legacy
pub mod Tables
pub mod Batches
pub mod Transactions
pub mod Requests
