pub mod Alone
pub mod Arbitration
pub mod Fairness
pub mod Remembering
pub mod Waiting
