pub mod Alone
pub mod Grant
pub mod Laws
pub mod Masters
pub mod State
pub mod WaitLaws
pub mod Winners
pub mod Words
