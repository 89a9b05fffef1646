pub mod Delayed
pub mod Earlier
