pub mod Clauses
pub mod Grouping
pub mod Offsets
pub mod Typing
