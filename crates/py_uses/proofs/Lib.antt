pub mod ExpressionLevels
pub mod Misplaced
pub mod StatementLevels
