mod PadWords
mod Rest
mod Sets
mod Stepped
mod Staying
pub mod BroughtUp
mod Cycles
pub mod Accesses
mod WithBank
