pub mod AcceptedModules
pub mod ByExample
mod Cuts
mod Distinct
mod Headers
mod Holds
mod Lists
mod Modules
pub mod ReadModules
