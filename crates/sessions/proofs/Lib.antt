pub mod AtOnce
pub mod Counts
pub mod Keys
pub mod Loads
pub mod Steps
