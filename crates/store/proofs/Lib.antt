pub mod Agreement
pub mod Derivations
pub mod Indexes
pub mod Loads
pub mod Places
