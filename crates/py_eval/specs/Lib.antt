pub mod Transitions
pub mod Words
