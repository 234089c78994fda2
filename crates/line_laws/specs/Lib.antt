pub mod Examples
pub mod Laws
pub mod Layout
pub mod PlainLines
