pub mod Bests
pub mod Existing
pub mod Members
pub mod Numbers
