pub mod Lines
pub mod Placed
pub mod Source
pub mod Laws
