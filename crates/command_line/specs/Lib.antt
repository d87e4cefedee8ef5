pub mod Building
pub mod Errors
pub mod Program
pub mod Requests
pub mod View
