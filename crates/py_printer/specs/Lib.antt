pub mod Expressions
pub mod Kinds
pub mod Lines
pub mod ReadBack
pub mod Spaces
pub mod Style
