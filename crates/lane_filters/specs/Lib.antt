pub mod ByLanes
pub mod Outcomes
pub mod View
