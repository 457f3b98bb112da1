-- Web Mercator.
pub mod Geodesy
pub mod Inner
pub mod Laws
