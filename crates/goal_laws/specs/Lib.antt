pub mod Governors
pub mod Laws
