-- A table of names.
pub mod Inner
pub mod Laws
