mod Alarms
mod Count
mod Latched
mod Passing
pub mod PureReads
