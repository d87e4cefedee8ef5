pub mod Answer
pub mod Audits
pub mod Explained
pub mod Guarded
pub mod Held
pub mod Hidden
pub mod PlanView
pub mod Plans
pub mod Readable
pub mod SeenStatistics
pub mod SeenTables
pub mod Serving
pub mod Settings
pub mod View
pub use Rattle.analysis.specs.Analysis
pub use Rattle.analysis.specs.Resolved
pub use Rattle.analysis.specs.View as AnalysisView
pub use Rattle.resolve.specs.View as BoundView
pub use Rattle.row_ast.specs.View as QueryView
pub use Rattle.seen_tables.specs.Known as Seen
pub use Rattle.store.specs.Database
pub use Rattle.store.specs.Catalog
pub use Rattle.store.specs.Checks
pub use Rattle.store.specs.Loads
pub use Rattle.store.specs.declared.store.StoreError
