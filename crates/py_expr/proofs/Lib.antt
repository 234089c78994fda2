pub mod NumberLemmas
pub mod NumberSteps
pub mod ReadLemmas
pub mod SymbolLemmas
