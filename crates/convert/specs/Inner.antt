-- Words in which contracts of the parts are said. What a host is promised is not said in them.
pub mod Outlines
