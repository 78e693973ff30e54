pub mod SessionLemmas
pub mod Meeting
