pub mod Answers
pub mod Checking
