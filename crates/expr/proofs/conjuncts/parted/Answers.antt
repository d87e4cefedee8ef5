use Rattle.std.proofs.Common.{refl, ap, ◌∙◌}
use Rattle.expr.specs.View.{bound_expr_of}
use Rattle.memory.proofs.Lists.{pushed}
use Rattle.expr.specs.Conjuncts.{is_in_part}
use Rattle.expr.proofs.Conjoined.{passed_next, left_out_next, part_is}
use Rattle.expr.proofs.conjuncts.parted.Goals.{then-is_movable-cannot_fault+in_ok-push, else-is_movable-cannot_fault}
use Rattle.expr.proofs.conjuncts.parted.Goals as goal

pub loop-conjunct-preserved : goal.loop-conjunct-preserved
loop-conjunct-preserved g c =
    elim c.if-is_movable-cannot_fault.branch [
      | then-is_movable-cannot_fault+in_ok-push w ↦
          passed_next (is_in_part c.args.cannot_fault) (λ e. bound_expr_of e.now) c.args.conjuncts.now c.loop-conjunct.conjunct-index _ _ c.loop-conjunct.invariant c.conjunct-item.result c.loop-conjunct-test.true c.conjunct-item.is
          (part_is _ _ _ c.is_movable.ensures ∙ w.if-is_movable-cannot_fault.true) _ (pushed (λ e. bound_expr_of e.now) _ _ _ _ (ap (λ v. v.items) w.part-is ∙ w.in_ok-push.ensures.items) refl)
      | else-is_movable-cannot_fault w ↦
          rw w.part-is
          (left_out_next (is_in_part c.args.cannot_fault) (λ e. bound_expr_of e.now) c.args.conjuncts.now c.loop-conjunct.conjunct-index _ _ c.loop-conjunct.invariant c.conjunct-item.result c.loop-conjunct-test.true c.conjunct-item.is
          (part_is _ _ _ c.is_movable.ensures ∙ w.if-is_movable-cannot_fault.false))
    ]
