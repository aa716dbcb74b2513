pub mod Lists
pub mod Unaligned
pub mod OneBeat
