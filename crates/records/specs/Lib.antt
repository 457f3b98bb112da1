-- The records of a stream.
pub mod Records
pub mod Walk
pub mod Layout
pub mod Limits
pub mod Search
pub mod Values
pub mod Conditions
pub mod Inner
pub mod Laws
