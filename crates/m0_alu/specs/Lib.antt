pub mod Extend
pub mod Product
pub mod Shift
pub mod Sum
