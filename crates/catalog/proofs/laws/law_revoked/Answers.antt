use Rattle.catalog.proofs.Revoked.{revoked_columns, revoked_table}
use Rattle.catalog.proofs.laws.law_revoked.Goals as goal

pub returns-clause-table : goal.returns-clause-table
returns-clause-table c = revoked_table

pub returns-clause-columns : goal.returns-clause-columns
returns-clause-columns c = revoked_columns
