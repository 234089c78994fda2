mod Blocks
pub mod ByExample
mod Compounds
mod Cuts
mod Fine
mod Forms
mod Holds
mod Lines
mod Lists
mod Modules
mod Numbered
mod Plain
pub mod ReadModules
mod Sections
