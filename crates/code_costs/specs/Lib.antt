pub mod Best
pub mod Cost
pub mod View
