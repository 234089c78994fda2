pub mod ModuleNames
pub mod BuiltMembers
