pub mod BoundQueries
pub mod Entries
pub mod EntryTables
pub mod OrderBy
pub mod Resolved
pub mod View
pub use Rattle.scope.specs.declared.error.BindError
