pub mod Gives
pub mod Heads
pub mod Places
pub mod Refuses
