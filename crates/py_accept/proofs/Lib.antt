pub mod Earlier
pub mod ExampleLevels
pub mod MethodIds
