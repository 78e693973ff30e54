-- The definitions in reading order: numbers as whole numbers (`Halves` to `Scaled`); the texts that denote them, and the one text that
-- each is printed as; and how a text is taken apart.
pub mod Halves
pub mod HalvesLaws
pub mod Digits
pub mod DigitLaws
pub mod Number
pub mod NumberLaws
pub mod Hashed
pub mod Scaled
pub mod Text
pub mod Printed
pub mod Reading
