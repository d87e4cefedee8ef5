pub mod Carets
pub mod Diagnosis
pub mod Meanings
pub mod Statements
