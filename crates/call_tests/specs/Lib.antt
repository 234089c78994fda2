pub mod CallTests
pub mod Examples
