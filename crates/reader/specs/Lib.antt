pub mod Nodes
pub mod Net
pub mod Kept
