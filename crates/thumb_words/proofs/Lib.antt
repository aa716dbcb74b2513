pub mod Filled
pub mod LeftOut
pub mod Decode
