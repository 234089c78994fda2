pub mod Displays
pub mod Duplicates
pub mod Pieces
