pub mod Errors
pub mod Keywords
pub mod Slices
pub mod Tokens
pub mod View
pub mod WithoutOffsets
