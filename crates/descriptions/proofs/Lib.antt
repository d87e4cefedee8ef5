pub mod Described
pub mod TypeRules
pub mod Walks
