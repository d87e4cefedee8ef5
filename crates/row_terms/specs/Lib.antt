pub mod Laws
pub mod Means
pub mod Terms
pub mod View
pub mod Written
