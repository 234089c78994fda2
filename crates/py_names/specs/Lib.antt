pub mod Bound
pub mod Examples
pub mod Folds
pub mod Laws
