pub mod Acting
pub mod Due
pub mod Fields
pub mod FileLines
pub mod Rows
pub mod Sending
pub mod Sorting
pub mod FileActs
