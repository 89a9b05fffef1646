pub mod Stored
pub mod Loop
pub mod Whole
