mod Clean
mod ExampleRules
mod Expressions
mod Fitting
mod Lines
mod Shapes
pub mod StatementRows
