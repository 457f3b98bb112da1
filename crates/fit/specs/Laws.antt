-- What callers may know of the fit.
pub mod Bearing
pub mod Fitted
pub mod Projected
