-- The definitions in reading order: faults, and which one is told; which keys lie in a range; what a condition asks; its
-- range or its first fault; and the law that both say the same.
pub mod FaultName
pub mod Faults
pub mod KeyRange
pub mod Asked
pub mod Range
pub mod Law
