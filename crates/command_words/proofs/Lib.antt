pub mod Spelling
pub mod Rules
pub mod Walks
pub mod Values
pub mod Program
pub mod Meaning
