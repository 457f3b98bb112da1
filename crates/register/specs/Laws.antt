-- The laws of these definitions that callers use.
pub mod Names
pub mod Outcomes
pub mod Kept
pub mod Registrable
pub mod Sound
pub mod Everything
pub mod Samples
