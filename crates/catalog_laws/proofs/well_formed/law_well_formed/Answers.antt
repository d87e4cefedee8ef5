use Rattle.catalog_laws.proofs.WellFormed.{at_first_well, change_well, guards_show, run_well}
use Rattle.catalog_laws.proofs.well_formed.law_well_formed.Goals as goal

pub returns : goal.returns
returns c = record { first = at_first_well; change = change_well; runs = run_well; guards = guards_show }
