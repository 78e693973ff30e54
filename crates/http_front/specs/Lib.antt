-- The definitions in reading order: what a head asks for, messages, streams of them, replies.
pub mod Heads
pub mod Messages
pub mod Streams
pub mod Ends
pub mod Spans
pub mod Replies
