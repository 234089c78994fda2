pub mod Examples
pub mod Folds
pub mod Laws
pub mod Spelled
pub mod SuiteOf
