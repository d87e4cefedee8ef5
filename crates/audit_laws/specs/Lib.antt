pub mod AcceptedPlans
pub mod ExplainedPlans
