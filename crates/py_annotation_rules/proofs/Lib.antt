pub mod AnnotationLevels
pub mod GenericParts
pub mod Prefixes
pub mod ReadNames
pub mod TableRows
pub mod UsesFound
