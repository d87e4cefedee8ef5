pub mod Covered
pub mod LeftOns
pub mod NextEntry
pub mod NullRows
pub mod Ranges
pub mod SlotLists
pub mod Unions
pub mod WrittenRows
