pub mod CutLemmas
pub mod ListLemmas
pub mod LoneLemmas
pub mod PrimaryLemmas
