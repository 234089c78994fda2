pub mod Cuts
pub mod Numbers
pub mod Places
pub mod Sequences
pub mod Titles
pub mod Words
