pub mod Gains
pub mod Laws
pub mod Watched
