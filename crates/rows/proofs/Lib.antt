pub mod Meaning
pub mod Layers
pub mod Stages
pub mod Tables
