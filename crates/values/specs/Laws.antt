-- The laws of these definitions that callers use.
pub mod Put
pub mod Points
pub mod Warnings
