pub mod Gives
pub mod Results
