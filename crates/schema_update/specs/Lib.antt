-- The definitions in reading order: what an update of a schema comes to; and how types by name are shown.
pub mod Updated
pub mod Types
