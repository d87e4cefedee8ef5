use Rattle.catalog.proofs.KeptColumns.{keeps_columns}
use Rattle.catalog.proofs.laws.law_tables_keep_their_columns.Goals as goal

pub returns : goal.returns
returns c = keeps_columns
