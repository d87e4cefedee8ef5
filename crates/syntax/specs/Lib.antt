pub mod Limits
pub mod Literals
pub mod Parsing
pub mod Tables
