pub mod Fields
pub mod Puts
pub mod Statuses
