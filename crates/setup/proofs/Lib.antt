pub mod Fold
pub mod Opens
pub mod PlanTree
pub mod Tables
pub mod SentChanges
