pub mod Blocks
pub mod Examples
pub mod Lines
pub mod Modules
pub mod Pages
