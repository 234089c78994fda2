mod Levels
mod Prefixes
