-- The definitions in reading order: points between sort keys and their order; keys of rows; the rows of a table and of
-- its indexes; when an item is expired.
pub mod Points
pub mod Tails
pub mod PointLaws
pub mod PointEnds
pub mod Keys
pub mod KeyLaws
pub mod Rows
pub mod Expiry
