pub mod Decides
pub mod Sums
pub mod TextAnswer
pub mod Tables
