-- What callers may know of the elementary functions.
pub mod Codes
pub mod Clamp
pub mod Powers
pub mod Exponential
pub mod Logarithm
pub mod Arctangent
pub mod Stages
pub mod Sine
pub mod Tangent
pub mod Mercator
pub mod Ordinate
pub mod Samples
