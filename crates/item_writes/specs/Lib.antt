-- The definitions in reading order: sets of both; lists behind one another; what is written; the item with all of it; its
-- bytes and levels, part by part; what it has at each name; a list with all writes, place by place; what stands at the end of
-- a path through maps and lists; small examples of both.
pub mod Union
pub mod Joined
pub mod NewTree
pub mod Apart
pub mod Edits
pub mod Extents
pub mod ValuesByName
pub mod ListsByPlace
pub mod PathsThroughLists
pub mod Worked
