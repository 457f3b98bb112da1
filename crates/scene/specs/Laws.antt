-- The laws of these definitions that callers use.
pub mod Names
pub mod Points
pub mod Shift
pub mod Widths
pub mod Answers
pub mod Rising
pub mod Samples
pub mod Found
pub mod Folds
pub mod Items
pub mod Near
