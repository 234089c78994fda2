pub mod Marked
pub mod Rest
pub mod Loads
pub mod Laws
