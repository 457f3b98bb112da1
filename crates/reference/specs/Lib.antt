-- Document 01's table and its reference sheet, two refused calls, and the draws of two scenes, computed from the definitions of all crates at once.
pub mod Laws
