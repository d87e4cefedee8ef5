pub mod Admitted
pub use Rattle.resolve.proofs.EntryTables
pub use Rattle.access.proofs.NamedEntries
pub use Rattle.access.proofs.NamedMentions
