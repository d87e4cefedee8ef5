use Rattle.std.proofs.Common.{◌≡◌, OnOk, Some, ap, subst, sym, ◌∙◌}
use Rattle.expr.specs.View.{bound_expr_of}
use Rattle.tuples.specs.View.{world_of}
use Rattle.row_marks.specs.Marks.{mark_at}
use Rattle.row_marks.proofs.MarkedRows.{mark_seen, no_mark_seen}
use Rattle.row_marks.proofs.marked.put_if_seen.Goals as goal

pub returns-then-not-is_seen-clause-made : goal.returns-then-not-is_seen-clause-made
returns-then-not-is_seen-clause-made g c = λ none.
    none ∙ sym (no_mark_seen (world_of c.args.world.now) c.args.entry (bound_expr_of c.args.expression.now) c.args.number (sym c.is_seen.ensures ∙ c.if-not-is_seen.true))

pub returns-clause-made : goal.returns-clause-made
returns-clause-made g c = λ none.
    subst (λ o. OnOk c.put.result (mark_at c.put.new.self c.args.number ≡ o))
    (ap (λ o. Some o) c.in_ok-mark.ensures ∙ sym (mark_seen (world_of c.args.world.now) c.args.entry (bound_expr_of c.args.expression.now) c.args.number (sym c.is_seen.ensures ∙ c.if-not-is_seen.false)))
    c.put.ensures.put
