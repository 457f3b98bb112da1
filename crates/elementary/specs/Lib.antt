-- The elementary functions as document 01 gives them, and what callers may know of them.
pub mod Constants
pub mod Series
pub mod Functions
pub mod Inner
pub mod Laws
