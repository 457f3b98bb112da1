-- What the functions' proofs share.
pub mod Decomposing
pub mod Fractions
pub mod Cases
