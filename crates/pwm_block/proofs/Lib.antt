mod Counting
mod Held
mod Periods
mod Pins
mod Rows
mod Slices
mod Wraps
mod Quiet
