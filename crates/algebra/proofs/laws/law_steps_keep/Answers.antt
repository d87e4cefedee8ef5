use Rattle.algebra.proofs.Law.{steps_keep}
use Rattle.algebra.proofs.laws.law_steps_keep.Goals as goal

pub returns : goal.returns
returns c = steps_keep
