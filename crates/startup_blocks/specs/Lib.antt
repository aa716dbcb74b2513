pub mod Words
pub mod Device
pub mod Laws
pub mod Table
