-- The laws of these definitions that callers use.
pub mod Applying
pub mod Events
pub mod Positions
pub mod Loading
pub mod Polygons
pub mod Reading
pub mod Exits
