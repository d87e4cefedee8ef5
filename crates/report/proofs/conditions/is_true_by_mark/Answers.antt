use Rattle.std.proofs.Common.{subst}
use Rattle.memory.specs.Gives.{Gives}
use Rattle.tuples.specs.View.{world_of}
use Rattle.row_marks.proofs.MarkOutcomes.{outcome_is}
use Rattle.report.specs.QueryStages.{truth_in}
use Rattle.report.proofs.conditions.is_true_by_mark.Goals as goal

pub returns : goal.returns
returns g c = λ are.
    subst (λ o. Gives (λ b. b) c.truth_in.result (truth_in o)) (outcome_is (world_of c.args.world.now) c.args.condition.now c.args.combination.now are)
    (c.truth_in.ensures _ (rw c.new-row.ensures at c.outcome.ensures.value))
