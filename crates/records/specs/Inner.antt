-- Words in which contracts of the parts are said. What a host is promised is not said in them.
pub mod Floats
pub mod Hits
pub mod Records
pub mod Names
pub mod Order
pub mod Refusals
pub mod Numbers
pub mod Wanted
