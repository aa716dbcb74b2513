pub mod Laws
pub mod Levels
pub mod Lines
pub mod Reading
pub mod Script
pub mod Words
