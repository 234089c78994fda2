pub mod Performing
pub mod Last
