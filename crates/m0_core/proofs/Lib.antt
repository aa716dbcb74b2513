pub mod Carrying
pub mod Comparisons
pub mod Kept
pub mod OneAccess
pub mod Plain
pub mod Lasting
pub mod Shapes
