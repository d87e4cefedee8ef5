pub mod Best
pub mod Plans
pub mod Tails
