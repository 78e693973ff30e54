pub mod Numbered
pub mod Rulings
