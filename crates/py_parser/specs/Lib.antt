pub mod Lines
pub mod Parsed
pub mod Reads
