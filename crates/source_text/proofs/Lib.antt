pub mod SymbolLaws
pub mod Capped
pub mod LinesOf
pub mod FirstThat
