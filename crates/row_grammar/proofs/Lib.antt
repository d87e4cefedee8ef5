pub mod Answer
pub mod Check
pub mod Facts
pub mod Meets
pub mod Steps
pub mod Whole
