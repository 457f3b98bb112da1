-- What items draw.
pub mod Convert
pub mod Inner
pub mod Laws
