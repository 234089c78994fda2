pub mod Code
pub mod CodeStatements
pub mod Expressions
pub mod Numbers
