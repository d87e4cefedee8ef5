pub mod Calls
pub mod Marked
pub mod Marks
