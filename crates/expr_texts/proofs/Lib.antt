mod Written
mod Expected
mod Lexed
mod Derived
pub mod ReadsBack
pub mod Origin
