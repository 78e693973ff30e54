pub mod HeapSteps
pub mod Dues
pub mod Loops
pub mod TokenMaps
pub mod Ordered
pub mod Purges
pub mod TokenLists
