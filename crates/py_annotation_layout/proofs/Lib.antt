mod Back
mod Edges
mod Endless
mod Forms
mod Levels
mod Lists
mod Nesting
mod Quiet
