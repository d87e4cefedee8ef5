use Rattle.std.proofs.Common.{refl, true, false, map, replicate, sym, ap, ◌∙◌}
use Rattle.expr.specs.View.{bound_expr_of}
use Rattle.tuples.specs.Guards.{Expr}
use Rattle.tuples.specs.View.{guard_of}
use Rattle.value.specs.Orders.{is_true, of_bool}
use Rattle.lane_filters.proofs.Holds.{all_alike, seen_of_truths}
use Rattle.lane_filters.proofs.seen.guard_truths.Goals as goal

pub returns-in_ok-all-in-All : goal.returns-in_ok-all-in-All
returns-in_ok-all-in-All g c =
    let role = c.args.role.now in
    ap (map is_true) (c.in_ok-all-in-All.ensures ∙ ap (λ n. replicate n (of_bool true)) c.row_count.ensures)
    ∙ all_alike role (guard_of c.args.guard.now) true (λ row. rw c.in-All.is refl) c.args.table.now.rows

pub returns-in_ok-all-in-None : goal.returns-in_ok-all-in-None
returns-in_ok-all-in-None g c =
    let role = c.args.role.now in
    ap (map is_true) (c.in_ok-all-in-None.ensures ∙ ap (λ n. replicate n (of_bool false)) c.row_count-in-None.ensures)
    ∙ all_alike role (guard_of c.args.guard.now) false (λ row. rw c.in-None.is refl) c.args.table.now.rows

pub returns-in-Expr : goal.returns-in-Expr
returns-in-Expr g c =
    seen_of_truths c.truths_of.result c.args.role.now c.args.table.now.rows (bound_expr_of c.expression.result.now) (guard_of c.args.guard.now) (ap guard_of c.in-Expr.is ∙ ap Expr (sym c.expression.ensures.value)) c.truths_of.ensures.truths
