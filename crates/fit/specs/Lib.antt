-- The fit of a similarity to control points.
pub mod Fit
pub mod Laws
