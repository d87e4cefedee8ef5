use Rattle.std.proofs.Common.{◌≡◌, ℕ, Some, ap, subst, sym, ◌∙◌}
use Rattle.expr.specs.View.{bound_expr_of}
use Rattle.memory.proofs.Cases.{some_is}
use Rattle.tuples.specs.View.{world_of}
use Rattle.row_marks.specs.Marked.{mark_on_null, seen_mark}
use Rattle.row_marks.specs.Marks.{mark_at}
use Rattle.row_marks.proofs.MarkedRows.{seen_is}
use Rattle.row_marks.proofs.marked.Marked.make_seen.Goals as goal

pub returns-clause-made : goal.returns-clause-made
returns-clause-made g c = λ entry h.
    let w = world_of c.args.world.now in
    let e = bound_expr_of c.args.self.now.expression.now in
    (λ number. subst (λ k. mark_at c.in_ok-self.field-0 number ≡ seen_mark w k e number) (some_is c.in-Some.entry entry (sym c.in-Some.is ∙ h)) (c.in_ok-self.ensures number), ap (λ o. Some o) c.in_ok-on_null.ensures)

pub returns-clause-marked : goal.returns-clause-marked
returns-clause-marked g c = λ are entry h.
    let w = world_of c.args.world.now in
    let e = bound_expr_of c.args.self.now.expression.now in
    let made : (number : ℕ) → mark_at c.in_ok-self.field-0 number ≡ seen_mark w entry e number =
    λ number. subst (λ k. mark_at c.in_ok-self.field-0 number ≡ seen_mark w k e number) (some_is c.in-Some.entry entry (sym c.in-Some.is ∙ h)) (c.in_ok-self.ensures number) in
    ((are entry h).0, λ number m is. seen_is w entry e number m (sym (made number) ∙ is), λ o is. sym (some_is (mark_on_null w e) o (ap (λ k. Some k) (sym c.in_ok-on_null.ensures) ∙ is)))
