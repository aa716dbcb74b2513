mod Bytes
mod Copying
mod Ending
mod Views
