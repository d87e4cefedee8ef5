pub mod Commands
pub mod Getters
pub mod Pairs
pub mod Reading
mod WorkedLines
