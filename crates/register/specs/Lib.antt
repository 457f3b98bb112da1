-- Registration.
pub mod Register
pub mod Inner
pub mod Laws
