pub mod Numbers
pub mod Options
pub mod Read
pub mod Words
pub mod Line
pub mod Table
pub mod Lists
pub mod Refusals
