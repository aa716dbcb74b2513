pub mod Lists
pub mod ReadLines
pub mod ReadTokens
pub mod Scanning
