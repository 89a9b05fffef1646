pub mod Preparing
pub mod Rounds
pub mod Grains
