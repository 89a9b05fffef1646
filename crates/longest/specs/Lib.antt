pub mod Longest
pub mod Line
pub mod Block
