-- What the tests ask, and refusals computed on whole streams.
pub mod Inner
pub mod Laws
