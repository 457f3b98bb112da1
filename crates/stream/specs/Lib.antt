-- What the functions of the crate answer, read beside 'The stream' and conditions 1 and 2.
pub mod Numbers
pub mod Conditions
pub mod Blocks
pub mod Payload
pub mod Inner
pub mod Laws
