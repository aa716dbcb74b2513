pub mod Held
pub mod Waits
