-- The definitions in reading order: when a token's life ends; the heap by that moment; and what is kept, as a map and as a list.
pub mod Kept
pub mod Heap
pub mod TokenMap
pub mod TokenList
