pub mod Parts
pub mod Telling
pub mod OnePage
pub mod Refusals
pub mod Shown
pub mod ShownParts
pub mod SameTables
pub mod Tries
