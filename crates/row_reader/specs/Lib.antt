pub mod Expressions
pub mod Language
pub mod Reading
