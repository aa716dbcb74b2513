pub mod Comparisons
pub mod Frames
pub mod Heard
pub mod Kept
pub mod Loopback
pub mod Timing
pub mod Passing
pub mod PureReads
