use Rattle.resolve.proofs.EntryTables.{binds_tables}
use Rattle.resolve.proofs.laws.law_entries_are_tables.Goals as goal

pub returns : goal.returns
returns c = binds_tables
