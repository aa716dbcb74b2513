-- How `parse` reads a file, step by step: what the contracts of the functions below it cite. It is the body's, and no definition of a
-- source stands on it.
pub mod Scan
pub mod Cursor
pub mod Expression
pub mod Calls
pub mod Instruction
pub mod Statement
pub mod Parsed
pub mod Gathering
