pub mod Causing
pub mod Shared
pub mod Telling
pub mod Walking
