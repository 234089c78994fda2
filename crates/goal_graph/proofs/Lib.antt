pub mod Chains
pub mod Families
pub mod FirstNumbers
pub mod Governed
pub mod Levels
pub mod LinesLeft
pub mod Marked
pub mod Tests
