pub mod Tables
pub mod Columns
pub mod Edges
pub mod Loaded
pub mod Counted
