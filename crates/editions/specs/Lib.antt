pub mod WithoutVias
pub mod Editions
pub mod Twins
