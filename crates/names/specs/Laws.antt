-- The laws of these definitions that callers use.
pub mod Order
