pub mod Reading
pub mod Reasons
pub mod Matrix
pub mod Changes
pub mod Closed
pub mod Sights
