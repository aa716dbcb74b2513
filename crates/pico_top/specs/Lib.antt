pub mod Answer
pub mod Causes
pub mod Dialogue
pub mod Opening
pub mod RunText
pub mod Teller
