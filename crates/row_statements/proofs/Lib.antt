pub mod Alters
pub mod Named
