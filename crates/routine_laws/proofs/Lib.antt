mod Coded
mod Memcpy
mod Memset
