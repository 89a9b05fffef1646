pub mod Staged
pub mod Gates
pub mod Plans
