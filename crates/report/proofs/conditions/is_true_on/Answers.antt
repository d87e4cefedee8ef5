use Rattle.std.proofs.Common.{ap, subst}
use Rattle.memory.specs.Gives.{Gives}
use Rattle.eval.specs.Meaning.{meaning}
use Rattle.tuples.specs.Combinations.{joined_cells}
use Rattle.tuples.specs.View.{world_of}
use Rattle.tuples.specs.World.{combination_at}
use Rattle.report.specs.QueryStages.{truth_in}
use Rattle.report.proofs.conditions.is_true_on.Goals as goal

pub returns-clause-value : goal.returns-clause-value
returns-clause-value g c = λ are.
    let w = world_of c.args.world.now in
    let cells = joined_cells (combination_at w.tables c.args.combination.now) in
    subst (λ e. Gives (λ b. b) c.is_true_by_mark.result (truth_in (meaning cells w.role e))) (ap (λ s. s.0) c.make.ensures.seen) (c.is_true_by_mark.ensures (c.make.ensures.marked are))
