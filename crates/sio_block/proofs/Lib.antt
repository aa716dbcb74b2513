mod Division
mod Handshake
mod Owner
mod Post
