pub mod BoundExprs
pub mod Entry
pub mod Lookup
pub mod View
