-- How a line is read, step by step: what the contracts of the program's functions cite. It is the body's, and no definition of a source
-- stands on it.
pub mod Tokens
pub mod Operands
pub mod Forms
pub mod Lines
