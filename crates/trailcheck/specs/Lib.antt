pub mod Admissible
pub mod Entries
pub mod Equalities
pub mod Limits
pub mod Replays
pub mod SameTerm
pub mod Settings
pub mod Shapes
pub mod Verdicts
pub mod View
pub use Rattle.algebra.specs.Rules
pub use Rattle.tuples.specs.Guards
pub use Rattle.tuples.specs.View as TuplesView
