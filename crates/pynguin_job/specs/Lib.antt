pub mod Examples
pub mod Faults
pub mod Headline
pub mod Outputs
pub mod Reading
pub mod Run
pub mod Status
pub mod Words
