-- What calls of several messages add to the history, and how they end.
pub mod Several
