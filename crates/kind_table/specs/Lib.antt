-- The kind table.
pub mod KindTable
pub mod Laws
