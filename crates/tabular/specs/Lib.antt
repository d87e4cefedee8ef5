pub mod Cells
pub mod ReplyTables
pub mod Tables
