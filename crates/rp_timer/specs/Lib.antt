pub mod InterruptLaws
pub mod Laws
pub mod Quiet
pub mod State
pub mod Step
pub mod Words
