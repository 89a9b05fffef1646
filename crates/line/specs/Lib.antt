pub mod Length
pub mod Counted
