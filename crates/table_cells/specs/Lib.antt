-- Read Kinds first: which answers a message can have. Then Visits: what threads do that cells are lent to.
pub mod Kinds
pub mod Visits
