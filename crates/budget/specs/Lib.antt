-- The vertex allowance.
pub mod Budget
pub mod Draws
pub mod Laws
