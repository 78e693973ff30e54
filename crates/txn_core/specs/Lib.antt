-- The definitions in reading order: what the protocol asks of tables; the state of the cells and its runs; the one serial order;
-- what each message is answered, and so which histories are legal; what drivers do and know; and the laws, one a definition.
pub mod Stamps
pub mod Protocol
pub mod Indexing
pub mod Service
pub mod Effects
pub mod State
pub mod Runs
pub mod Serial
pub mod Answers
pub mod History
pub mod Feeding
pub mod Legal
pub mod Breaks
pub mod Replay
pub mod Tokens
pub mod Course
pub mod Driver
pub mod Cells
pub mod Memory
pub mod Laws
pub mod Indexes
