use Rattle.std.proofs.Common.{◌∙◌, ◌≤◌, ◌^◌, subst, sym, arith}
use Rattle.stats.specs.Factors.{million}
use Rattle.stats.specs.View.{selection_of}
use Rattle.left_tails.specs.Tails.{is_completed}
use Rattle.left_tails.proofs.Reduced.{none_left, not_reduced, reduced_by_it, reduced_within}
use Rattle.left_tails.proofs.sizes.size_with_left.Goals as goal
use Rattle.left_tails.proofs.sizes.size_with_left.Goals.{then-is_completed, else-is_completed}

pub returns-clause-value : goal.returns-clause-value
returns-clause-value g c =
    sym (none_left (λ s. selection_of s) (is_completed c.args.entry) c.args.conditions.now c.loop-condition.rows c.loop-condition.condition-index c.loop-condition-test.false) ∙ c.loop-condition.invariant.rest

pub loop-condition-preserved : goal.loop-condition-preserved
loop-condition-preserved g c =
    elim c.if-is_completed.branch [
      | then-is_completed w ↦ record {
        rest =
            reduced_by_it (λ s. selection_of s) (is_completed c.args.entry) c.args.conditions.now c.loop-condition.rows c.loop-condition.condition-index c.condition-item.result c.loop-condition-test.true c.condition-item.is c.if-is_completed.rows
            (sym w.if-is_completed.true ∙ c.is_completed.ensures) (w.rows-is ∙ w.reduced-rows.ensures.value)
            ∙ c.loop-condition.invariant.rest;
        most =
            let f = subst (λ s. s.factor ≤ million) (sym c.condition-item.is) (c.requires.parts c.loop-condition.condition-index c.condition-item.result c.loop-condition-test.true) in
            subst (λ r. r ≤ 2 ^ 40) (sym (w.rows-is ∙ w.reduced-rows.ensures.value)) (reduced_within c.loop-condition.rows c.condition-item.result.factor (2 ^ 40) f c.loop-condition.invariant.most (omega arith));
      }
      | else-is_completed w ↦ record {
        rest =
            not_reduced (λ s. selection_of s) (is_completed c.args.entry) c.args.conditions.now c.loop-condition.rows c.loop-condition.condition-index c.condition-item.result c.loop-condition-test.true c.condition-item.is c.if-is_completed.rows
            (sym w.if-is_completed.false ∙ c.is_completed.ensures) w.rows-is
            ∙ c.loop-condition.invariant.rest;
        most = omega arith;
      }
    ]
