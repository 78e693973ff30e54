-- What a set is.
pub mod Sets
