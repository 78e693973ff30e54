-- The definitions in reading order: a key value's bytes, and the place that their hash gives; the orders of values and of
-- whole keys; the key of an item, or its fault; and what indexes refuse or keep of an item.
pub mod KeyBytes
pub mod Place
pub mod Order
pub mod OrderLaws
pub mod ScanOrder
pub mod FaultName
pub mod ItemKey
pub mod Part
pub mod Unfit
pub mod Row
