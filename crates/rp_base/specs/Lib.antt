pub mod Access
pub mod Alias
pub mod Held
pub mod Map
pub mod ResetBits
pub mod Resettable
pub mod Rows
pub mod Word
