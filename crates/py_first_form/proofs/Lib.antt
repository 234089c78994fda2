pub mod CodeLemmas
pub mod LineLemmas
pub mod LiteralLemmas
pub mod NameLemmas
pub mod TreeLemmas
