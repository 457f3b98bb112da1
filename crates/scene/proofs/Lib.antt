pub mod Bounds
pub mod Keys
pub mod Means
pub mod Reading
pub mod Starts
