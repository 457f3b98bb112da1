-- What callers may know of the projection.
pub mod Finite
pub mod Samples
