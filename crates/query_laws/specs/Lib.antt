pub mod Admitted
pub mod InOrder
pub mod LeftJoins
pub mod Outside
pub mod Typed
pub mod Values
