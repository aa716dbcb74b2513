pub mod Quietly
pub mod Bits
pub mod Comparisons
pub mod Latching
pub mod Routed
pub mod Rows
pub mod Same
