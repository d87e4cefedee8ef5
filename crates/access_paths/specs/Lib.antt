pub mod Bounds
pub mod Columns
pub mod Indexed
pub mod Reading
