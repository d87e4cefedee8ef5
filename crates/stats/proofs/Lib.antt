pub mod Bounded
pub mod Distinct
pub mod EntrySets
mod Estimates
pub mod Marked
pub mod Marks
pub mod Parts
pub mod Passes
pub mod Seen
mod Shares
pub mod Texts
