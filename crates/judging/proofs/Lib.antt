pub mod Checking
pub mod Judging
