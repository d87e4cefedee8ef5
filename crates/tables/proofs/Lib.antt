pub mod Appends
pub mod Bytes
pub mod Cells
pub mod Follow
pub mod Names
pub mod NullText
pub mod Records
pub mod Wide
