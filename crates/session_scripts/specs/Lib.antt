pub mod Lines
pub mod ReplyTexts
pub mod View
