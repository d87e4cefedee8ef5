pub mod Access
pub mod EachOnce
pub mod Guards
pub mod Laws
pub mod NamedLaws
pub mod Needed
pub mod View
