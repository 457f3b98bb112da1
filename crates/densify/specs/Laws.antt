-- The laws of these definitions that callers use.
pub mod Writing
pub mod Closing
pub mod Segments
pub mod Rounds
pub mod Replay
pub mod Allowances
pub mod Counts
pub mod Sizes
pub mod Bounds
pub mod Samples
