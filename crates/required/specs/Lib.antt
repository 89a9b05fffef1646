pub mod Links
pub mod Timed
pub mod Scan
