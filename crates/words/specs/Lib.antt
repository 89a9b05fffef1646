pub mod Words
pub mod Puts
pub mod Held
pub mod Net
