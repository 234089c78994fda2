pub mod Annotations
pub mod Examples
pub mod Laws
