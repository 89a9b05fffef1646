pub mod Descent
pub mod Outcomes
