pub mod Linking
pub mod Loop
