pub mod Decoder
pub mod Grammar
pub mod Limits
pub mod Meaning
