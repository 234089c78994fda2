pub mod Blocks
pub mod Earliest
pub mod Places
pub mod Underscores
