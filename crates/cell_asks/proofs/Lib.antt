pub mod Kept
pub mod Trails
pub mod Histories
pub mod SameKeys
