pub mod Calls
pub mod GroupValues
pub mod Groups
pub mod Offsets
