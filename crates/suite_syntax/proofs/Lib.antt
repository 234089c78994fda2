mod DisplayLevels
mod Integers
