pub mod Hashes
pub mod Within
