pub mod Core
pub mod Outcomes
pub mod ThinTwo
pub mod ThinOne
pub mod Seen
pub mod Said
