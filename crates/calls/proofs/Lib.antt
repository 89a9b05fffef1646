pub mod Planning
pub mod Rounds
