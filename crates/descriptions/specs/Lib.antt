pub mod Descriptions
pub mod Laws
pub mod Types
