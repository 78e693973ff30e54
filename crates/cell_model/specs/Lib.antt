-- The definitions in reading order: keys and their order; the catalog; what actions say and do, and which are the same;
-- the first fault of a schema; commands; what is told; when items are expired; index rows; pages, and pages that go from
-- cell to cell; and what the protocol needs to know of all these.
pub mod Keys
pub mod KeyLaws
pub mod Catalogs
pub mod Actions
pub mod ActionCodes
pub mod SameActions
pub mod FirstFault
pub mod Commands
pub mod Told
pub mod Expiry
pub mod IndexRows
pub mod Pages
pub mod Parts
pub mod Service
pub mod Laws
pub mod KeptCatalogs
