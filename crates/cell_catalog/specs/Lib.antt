-- The numbers that stay, and the fault that a refusal tells of; the commands themselves are defined in `cell_model`.
pub mod Numbers
pub mod Faults
