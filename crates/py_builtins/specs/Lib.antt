pub mod Extremes
pub mod Held
