pub mod Annotated
pub mod BoundLevels
pub mod Earlier
pub mod Locals
pub mod ModuleNames
pub mod Texts
pub mod Typing
