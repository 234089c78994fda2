pub mod Headers
pub mod Parts
pub mod Reads
