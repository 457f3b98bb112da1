-- What is computed, in Rows, Sheet and Draws, and what that needs.
pub mod Draws
pub mod Everything
pub mod Rows
pub mod Scenes
pub mod Sheet
