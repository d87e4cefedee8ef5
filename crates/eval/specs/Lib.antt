pub mod Comparing
pub mod Laws
pub mod Marks
pub mod Meaning
pub mod Memory
pub mod Operators
