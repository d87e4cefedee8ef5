pub mod Accepted
pub mod FirstNumbers
pub mod Numbers
pub mod Placed
pub mod Same
pub mod Trail
