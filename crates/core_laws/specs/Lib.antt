pub mod Begins
pub mod EventLaws
pub mod ExceptionLaws
pub mod Handlers
pub mod Laws
pub mod Sound
pub mod Stops
pub mod Waiting
