pub mod Rows
pub mod Laid
