pub mod Best
pub mod LastSort
pub mod Plans
pub mod View
pub mod Wanted
pub use Rattle.code_costs.specs.Best as LeastCode
pub use Rattle.code_costs.specs.Cost
pub use Rattle.rewrite.specs.Laws
pub use Rattle.rewrite.specs.Listing
pub use Rattle.rewrite.specs.Placing
