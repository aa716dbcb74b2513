pub mod Decoded
pub mod Parts
pub mod Sizes
pub mod SourceSteps
pub mod Whole
