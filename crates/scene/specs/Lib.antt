-- The scene that a stream holds, and the point that a label names.
pub mod Scene
pub mod Labels
pub mod Inner
pub mod Laws
