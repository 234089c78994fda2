pub mod FirstFormFronts
pub mod FirstFormLaws
pub mod FirstFormLemmas
pub mod TreesNumbering
pub mod TokenLaws
