pub mod Ast
pub mod Statements
pub mod View
pub mod Weights
