pub mod Elements
pub mod Handlers
