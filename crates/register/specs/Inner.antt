-- Words in which contracts of the parts are said. What a host is promised is not said in them.
pub mod LatLookup
pub mod Mentions
pub mod Gathered
pub mod Survey
pub mod Outcome
pub mod Warnings
