pub mod FirstPlaces
pub mod Cutting
pub mod Fronts
pub mod Joining
pub mod Scans
