pub mod AtOnce
pub mod Cursors
pub mod Keeping
pub mod Ready
pub mod Runs
