-- The host's call.
pub mod Geopic
pub mod Inner
pub mod Laws
pub mod Demands
