pub mod Clocks
pub mod Linked
pub mod Ready
