-- The laws of these definitions that callers use.
pub mod Tests
pub mod Records
pub mod Walk
pub mod Search
pub mod Refusals
pub mod Names
pub mod Samples
