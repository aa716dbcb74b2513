pub mod Counting
pub mod Faithful
pub mod Finding
pub mod Joining
pub mod Keeping
pub mod Nearest
pub mod Room
pub mod Storing
