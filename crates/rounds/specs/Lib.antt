pub mod Problem
pub mod Clauses
