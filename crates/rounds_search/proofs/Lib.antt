pub mod Rounds
pub mod Outcomes
