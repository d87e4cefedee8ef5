use Rattle.catalog_laws.proofs.WellFormedDatabase.{arises_well, at_start_well, loads_keep, rows_fit, statements_keep}
use Rattle.catalog_laws.proofs.databases.law_well_formed_database.Goals as goal

pub returns : goal.returns
returns c = record { start = at_start_well; statement = statements_keep; load = loads_keep; runs = arises_well; rows = rows_fit }
