pub mod Rights
pub mod Explanation
pub mod Lines
pub mod Loads
pub mod Opening
pub mod PlanTree
pub mod Schema
