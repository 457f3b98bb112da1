-- The laws of these definitions that callers use.
pub mod Allowances
pub mod Draws
pub mod Samples
