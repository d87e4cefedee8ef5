pub mod Laws
pub mod Listing
pub mod Placing
pub mod Simplifying
pub mod Trails
pub mod Turning
pub use Rattle.row_terms.specs.Written
