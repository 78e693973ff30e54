pub mod Twice
pub mod Firsts
pub mod Reading
pub mod Telling
