pub mod Tests
pub mod Cases
pub mod Prefixes
pub mod Steps
pub mod Passes
pub mod Near
pub mod RefusalNumbers
