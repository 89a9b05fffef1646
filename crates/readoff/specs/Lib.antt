pub mod Clauses
pub mod NearTimes
