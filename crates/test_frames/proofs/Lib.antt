mod Keeps
mod KeepsValues
mod Steps
