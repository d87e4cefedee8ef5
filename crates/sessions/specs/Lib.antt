pub mod AtOnce
pub mod Events
pub mod Reply
pub mod State
pub mod Taking
pub mod View
pub use Rattle.store.specs.MovableExpr
