pub mod Holding
pub mod LoadErrors
pub mod Loading
pub mod Reading
