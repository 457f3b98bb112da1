-- Theorems that rest on the value of `root_at`.
pub mod Form
pub mod Middles
pub mod Patterns
pub mod Root
pub mod Shape
pub mod SingleDigits
