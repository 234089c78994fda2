pub mod Identifiers
pub mod Literals
pub mod Modules
pub mod Runs
pub mod Trust
pub mod Writes
