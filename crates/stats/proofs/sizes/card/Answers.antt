use Rattle.std.proofs.Common.{◌∙◌, ◌≤◌, ◌^◌, ap, map, subst, sym, arith}
use Rattle.stats.specs.Factors.{million}
use Rattle.stats.specs.View.{members, selection_of}
use Rattle.stats.proofs.Estimates.{conditions_over, not_reduced, reduced_by, reduced_by_it, reduced_within}
use Rattle.stats.proofs.sizes.card.Goals as goal
use Rattle.stats.proofs.sizes.card.Goals.{then-is_about, else-is_about}

pub returns-clause-value : goal.returns-clause-value
returns-clause-value g c = sym (conditions_over (λ s. selection_of s) c.args.conditions.now (members c.args.entries) c.loop-condition.rows c.loop-condition.condition-index c.loop-condition-test.false) ∙ c.loop-condition.invariant.rest

pub loop-condition-preserved : goal.loop-condition-preserved
loop-condition-preserved g c =
    elim c.if-is_about.branch [
      | then-is_about w ↦ record {
        rest =
            reduced_by_it (λ s. selection_of s) c.args.conditions.now (members c.args.entries) c.loop-condition.rows c.loop-condition.condition-index c.condition-item.result c.loop-condition-test.true c.condition-item.is c.if-is_about.rows
            (sym w.if-is_about.true ∙ c.is_about.ensures) (w.rows-is ∙ w.reduced-rows.ensures.value)
            ∙ c.loop-condition.invariant.rest;
        least = omega arith;
        most =
            let f = subst (λ s. s.factor ≤ million) (sym c.condition-item.is) (c.requires c.loop-condition.condition-index c.condition-item.result c.loop-condition-test.true) in
            subst (λ r. r ≤ 2 ^ 40) (sym (w.rows-is ∙ w.reduced-rows.ensures.value)) (reduced_within c.loop-condition.rows c.condition-item.result.factor (2 ^ 40) f c.loop-condition.invariant.most (omega arith));
      }
      | else-is_about w ↦ record {
        rest =
            not_reduced (λ s. selection_of s) c.args.conditions.now (members c.args.entries) c.loop-condition.rows c.loop-condition.condition-index c.condition-item.result c.loop-condition-test.true c.condition-item.is c.if-is_about.rows
            (sym w.if-is_about.false ∙ c.is_about.ensures) w.rows-is
            ∙ c.loop-condition.invariant.rest;
        least = omega arith;
        most = omega arith;
      }
    ]

pub loop-condition-init : goal.loop-condition-init
loop-condition-init g c = record {
  rest = ap (λ rows. reduced_by (members c.args.entries) rows (map (λ s. selection_of s) c.args.conditions.now)) c.all_rows-rows.ensures.value;
  least = omega arith;
  most = omega arith;
}
