pub mod Bags
pub mod Cutting
pub mod Scans
pub mod Splitting
