pub mod Clauses
pub mod Planned
