pub mod Cells
pub mod Layers
