pub mod Entries
pub mod Filters
pub mod Found
pub mod LeftJoins
pub mod Named
