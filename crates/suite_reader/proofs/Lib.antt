mod Collected
mod Levels
mod Numerals
mod Read
