mod Back
mod Findable
mod Made
mod Compared
mod Marks
pub mod Ons
