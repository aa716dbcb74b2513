pub mod Between
pub mod Depths
pub mod Highest
pub mod Masks
pub mod Rows
mod Instr
