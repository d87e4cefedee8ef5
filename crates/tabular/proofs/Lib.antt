pub mod ShownChars
pub mod Sides
pub mod Times
