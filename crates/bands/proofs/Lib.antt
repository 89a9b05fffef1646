pub mod Writing
pub mod Columns
