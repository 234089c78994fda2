pub mod Stacks
pub mod Numbers
