-- Points on the canvas.
pub mod Densify
pub mod Draws
pub mod Inner
pub mod Laws
