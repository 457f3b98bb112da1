pub mod Numbers
pub mod Orders
pub mod Reading
pub mod Halves
pub mod Slots
pub mod Noting
pub mod Meeting
pub mod Walking
