pub mod Arguments
pub mod Dense
pub mod LastParts
mod Levels
pub mod Lists
pub mod Orders
mod Search
mod Spans
mod SpansExpr
mod SpansStmt
pub mod StmtLevels
