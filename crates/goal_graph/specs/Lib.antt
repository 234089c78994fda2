pub mod Blocks
pub mod Graph
pub mod Laws
pub mod Lines
pub mod Numbers
pub mod Targets
