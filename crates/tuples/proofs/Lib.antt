pub mod Joining
pub mod NoLefts
pub mod OneEntry
pub mod Slots
