pub mod Functions
pub mod Gives
