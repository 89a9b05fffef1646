pub mod Joining
pub mod Separated
pub mod Decimal
pub mod Times
