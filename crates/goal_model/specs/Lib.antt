pub mod Examples
pub mod Folds
pub mod Goals
pub mod Laws
pub mod Parents
pub mod Points
pub mod Taken
