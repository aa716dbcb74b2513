pub mod Held
pub mod Released
