pub mod From
pub mod Queries
pub mod View
