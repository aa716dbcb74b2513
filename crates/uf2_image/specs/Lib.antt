pub mod Reading
pub mod Uf2
pub mod Code
pub mod Words
pub mod Writing
