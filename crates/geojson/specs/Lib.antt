-- What is given out.
pub mod Rfc7946
pub mod Features
pub mod Inner
