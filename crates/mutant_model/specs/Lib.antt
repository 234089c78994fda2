pub mod Examples
pub mod Folds
pub mod Laws
pub mod Mutants
pub mod Rewriting
pub mod Rows
pub mod Sites
