pub mod Looks
pub mod Mapped
