-- Reasons first: what two reads of one item tell. Then the two rounds of reads.
pub mod Reasons
pub mod Reads
