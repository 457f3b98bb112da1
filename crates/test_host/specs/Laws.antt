-- Theorems about these definitions.
pub mod Streams
