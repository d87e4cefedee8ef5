pub mod Faults
pub mod Laws
pub mod Nulls
pub mod Rules
