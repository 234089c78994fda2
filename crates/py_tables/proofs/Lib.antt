pub mod Levels
pub mod Assigned
pub mod Counts
pub mod Numbers
pub mod Orders
