pub mod Keeping
pub mod PlanningList
pub mod Rewrites
pub mod Rules
pub mod Runs
pub mod Steps
pub mod View
