use Rattle.eval.proofs.Agreement.{same_meaning}
use Rattle.eval.proofs.laws.law_reads_its_columns.Goals as goal

pub returns : goal.returns
returns c = same_meaning
