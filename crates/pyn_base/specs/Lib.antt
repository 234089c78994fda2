pub mod Construct
pub mod Desk
pub mod Files
pub mod Int
pub mod MemoryDesk
pub mod RealDesk
pub mod Shelf
pub mod SteadyDesk
