pub mod Connectives
pub mod GoesOn
pub mod Heads
pub mod Levels
pub mod View
