pub mod Asides
pub mod Repeats
pub mod Ranges
