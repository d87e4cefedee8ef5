pub mod Equality
pub mod Holds
pub mod Members
pub mod Nodes
pub mod Operators
pub mod Pointwise
pub mod Shown
