pub mod Exits
pub mod Forms
pub mod Outlines
pub mod Splits
pub mod Points
