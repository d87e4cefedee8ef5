pub mod FittingRows
pub mod GrantLaws
pub mod WellFormed
pub mod WellFormedDatabase
pub use Rattle.store.specs.Database
pub use Rattle.catalog.specs.Catalog
