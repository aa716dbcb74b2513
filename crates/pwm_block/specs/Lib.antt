pub mod Changes
pub mod Device
pub mod Laws
pub mod Outputs
pub mod Packing
pub mod State
pub mod Step
pub mod Words
