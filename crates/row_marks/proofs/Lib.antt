pub mod MarkOutcomes
pub mod MarkedRows
pub mod Marking
pub mod Putting
