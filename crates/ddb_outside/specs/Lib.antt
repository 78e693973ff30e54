-- The definitions, one file a thing: causes of failures; what looks at a clock give; how connections are dealt out; what a
-- listener tells; what the forms in memory hold; and what is written in part.
pub mod Causes
pub mod Clocks
pub mod Dealt
pub mod Listeners
pub mod Memory
pub mod Writes
