pub mod Trees
pub mod ExprTexts
pub mod Filters
