pub mod Answers
pub mod NewExceptions
