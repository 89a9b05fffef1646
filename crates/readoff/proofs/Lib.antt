pub mod Columns
pub mod Needs
pub mod Layers
pub mod Times
pub mod Plan
