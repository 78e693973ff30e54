pub mod Telling
pub mod Asking
pub mod Same
pub mod Stated
pub mod Lists
pub mod Once
pub mod Judging
