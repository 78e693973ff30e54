pub mod Weights
pub mod Basics
pub mod Keys
pub mod Adding
pub mod Foundings
pub mod BroughtOver
pub mod EntriesOver
