pub mod Codes
pub mod Costs
pub mod Few
pub mod Guards
pub mod Lefts
