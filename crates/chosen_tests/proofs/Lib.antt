mod FirstPass
mod OfTests
mod SecondPass
mod Tally
