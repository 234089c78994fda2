pub mod Stopping
