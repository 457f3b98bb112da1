-- What the functions of the crate answer, and the laws of binary64 that every later proof uses.
pub mod Functions
pub mod Horner
pub mod Inner
pub mod Laws
