-- What the parts of a body state, in reading order: members; placeholders and expressions; what requests have in common; legacy members.
pub mod Ends
pub mod Members
pub mod Placeholders
pub mod Expressions
pub mod Asks
pub mod Trees
pub mod Parts
pub mod Legacy
