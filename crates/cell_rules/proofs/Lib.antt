pub mod Equalities
pub mod Schemas
pub mod Acting
pub mod Beside
