-- The laws of these definitions.
pub mod KindTable
