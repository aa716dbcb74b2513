pub mod Lanes
pub mod Laws
pub mod Pages
pub mod Sram
