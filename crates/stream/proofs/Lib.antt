-- What the functions' proofs share.
pub mod BlockChecks
pub mod Patterns
pub mod Inside
