pub mod Joined
pub mod Opened
pub mod Loops
pub mod RowsRead
pub mod Gained
pub mod Reported
pub mod Counts
