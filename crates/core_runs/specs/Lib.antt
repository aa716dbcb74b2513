pub mod Bytes
pub mod Checksum
pub mod Instructions
pub mod Programs
pub mod Runs
pub mod Words
