pub mod AcceptedPlans
pub mod EntryNames
pub mod ExplainedPlans
