pub mod Fault
pub mod MemShelf
pub mod MemSink
pub mod MemSource
pub mod Shelf
pub mod Sink
pub mod Source
