pub mod Accepting
pub mod Lengths
