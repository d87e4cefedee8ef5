pub mod Growing
pub mod Ordered
pub mod PackedKeys
pub mod Sorting
pub mod View
