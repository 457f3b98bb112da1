-- The laws of these definitions that callers use.
pub mod Conditions
pub mod Numbers
pub mod Payload
pub mod Samples
