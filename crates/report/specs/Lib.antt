pub mod Answer
pub mod Answering
pub mod Held
pub mod Ordered
pub mod Pushed
pub mod QueryStages
pub mod Restricted
