pub mod Examples
pub mod Expressions
pub mod Printing
pub mod ShapeLaws
pub mod SymbolTokens
pub mod Texts
