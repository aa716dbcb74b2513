pub mod Comparisons
pub mod Held
pub mod InForce
pub mod Least
mod Period
pub mod Rows
pub mod Settled
pub mod Silent
