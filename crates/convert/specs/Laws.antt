-- The laws of these definitions that callers use.
pub mod Items
pub mod Kinds
pub mod Loops
pub mod Draws
pub mod Allowances
pub mod Features
