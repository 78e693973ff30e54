-- The definitions in reading order: what is asked first for a page; what a try of a request for a page comes to. Then what the
-- calls inside say.
pub mod Asked
pub mod Pages
pub mod Steps
