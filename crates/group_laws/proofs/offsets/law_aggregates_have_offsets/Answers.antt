use Rattle.group_laws.proofs.Admitted.{have_offsets}
use Rattle.group_laws.proofs.Values.{have_values}
use Rattle.group_laws.proofs.offsets.law_aggregates_have_offsets.Goals as goal

pub returns-clause-offsets : goal.returns-clause-offsets
returns-clause-offsets c = have_offsets c.law_text_offsets_ascend.ensures

pub returns-clause-values : goal.returns-clause-values
returns-clause-values c = have_values (have_offsets c.law_text_offsets_ascend.ensures)
