pub mod FirstRows
pub mod Held
pub mod OutputOrder
pub mod PackedKeys
pub mod Words
