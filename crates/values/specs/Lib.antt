-- What several crates name: values that may be absent, points, warnings, and what is put into a slice.
pub mod Options
pub mod Points
pub mod Slices
pub mod Warnings
pub mod Inner
pub mod Laws
