pub mod Before
pub mod BestTails
pub mod Reduced
pub mod TailCosts
