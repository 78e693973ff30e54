-- What a list of this crate ends as where its items are lent; how values lie in it.
pub mod Lends
pub mod formers
