-- The definitions in reading order: which keys lie in a range, the least key, where the ends of a range of sort keys stand,
-- and which places a segment has.
pub mod Span
pub mod Least
pub mod Points
pub mod Segment
pub mod AtKeys
