pub mod Binds
pub mod ByAlias
pub mod Found
