pub mod Line
pub mod Sent
pub mod Tape
