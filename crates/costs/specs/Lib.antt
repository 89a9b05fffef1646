pub mod Priced
pub mod Adding
pub mod Pricing
