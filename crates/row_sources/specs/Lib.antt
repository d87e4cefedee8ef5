pub mod Ascending
pub mod Sources
pub mod Split
pub mod Values
pub mod Wanted
