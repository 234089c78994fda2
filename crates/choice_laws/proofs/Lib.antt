mod Choosing
mod Counts
mod Covered
mod Minimality
mod Own
