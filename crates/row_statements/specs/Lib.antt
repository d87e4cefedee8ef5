pub mod Creates
pub mod Schemas
pub mod View
