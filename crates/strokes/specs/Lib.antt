-- Lines, rings and points on the lent slices.
pub mod Strokes
pub mod Space
pub mod Features
pub mod Inner
pub mod Laws
