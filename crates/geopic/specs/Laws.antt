-- The laws of these definitions, for the demands and for the call's proof.
pub mod Conditions
pub mod Scenes
pub mod Clearing
pub mod Calls
pub mod Tiers
