pub mod LimitRows
pub mod Limits
pub mod Noted
pub mod Numbered
pub mod Whole
