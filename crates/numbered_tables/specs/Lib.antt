-- The definitions in reading order: tables as they are kept; what changes make of them; what is prepared of each; the
-- removals of what is expired.
pub mod Tables
pub mod Changes
pub mod Prepared
pub mod Swept
