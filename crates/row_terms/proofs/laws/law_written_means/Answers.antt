use Rattle.row_terms.proofs.WrittenRows.{written_means}
use Rattle.row_terms.proofs.laws.law_written_means.Goals as goal

pub returns : goal.returns
returns c = written_means c.law_offsets_keep_value.ensures
