pub mod PlanTrees
pub mod View
