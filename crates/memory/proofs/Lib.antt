pub mod Cases
pub mod Each
pub mod Lighter
pub mod Lists
