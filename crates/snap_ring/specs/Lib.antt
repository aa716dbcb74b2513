pub mod Laws
pub mod Pages
pub mod Ring
pub mod Snapshot
