use Rattle.eval.proofs.Faultless.{faultless}
use Rattle.eval.proofs.laws.law_movable_never_faults.Goals as goal

pub returns : goal.returns
returns c = faultless
