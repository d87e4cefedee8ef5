use Rattle.rewrite.proofs.SameCombinations.{shapes_mean_same}
use Rattle.rewrite.proofs.laws.law_shapes_mean_same.Goals as goal

pub returns : goal.returns
returns c = shapes_mean_same c.law_offsets_keep_value.ensures
