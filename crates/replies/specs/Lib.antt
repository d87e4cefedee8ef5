pub mod Buffered
pub mod Reply
pub mod ReplyText
pub mod View
