pub mod ConstructLaws
pub mod FieldLaws
pub mod LineLaws
pub mod ReadLaws
pub mod RefusalLaws
pub mod SparedLaws
