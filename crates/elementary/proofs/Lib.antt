-- What the functions' proofs share.
pub mod Clamp
pub mod Exponential
pub mod Horner
pub mod Quarters
pub mod Reduction
pub mod Logarithm
pub mod Powers
