pub mod Pushes
pub mod Tails
pub mod Waiting
pub mod Falling
