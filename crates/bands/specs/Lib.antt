pub mod Entries
pub mod Clauses
