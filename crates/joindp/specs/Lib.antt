pub mod Candidates
pub mod FewSteps
pub mod Following
pub mod Search
pub mod Walks
