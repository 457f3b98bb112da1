-- Canvas points to the Earth.
pub mod Projection
pub mod Inner
pub mod Laws
