pub mod GoneOn
pub mod NoWork
pub mod Passing
