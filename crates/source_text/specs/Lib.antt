pub mod Outcome
pub mod Characters
pub mod Numbers
pub mod Position
pub mod Lines
pub mod Symbols
