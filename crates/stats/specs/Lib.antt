pub mod Card
pub mod Factors
pub mod Marked
pub mod Repeats
pub mod Runs
pub mod Statistics
pub mod Types
pub mod View
