use Rattle.std.proofs.Common.{◌≡◌, ◌≢◌, ℕ, OnOk, Option, None, Some, false, true≢false, ap, option_map, subst, sym, ◌∙◌}
use Rattle.std.specs.Option.{is_some}
use Rattle.expr.specs.View.{bound_expr_of}
use Rattle.eval.specs.Marks.{outcome_of}
use Rattle.eval.specs.Meaning.{Outcome}
use Rattle.memory.proofs.Cases.{none_is_not, some_is}
use Rattle.tuples.specs.View.{world_of}
use Rattle.row_marks.specs.Marked.{mark_on}
use Rattle.row_marks.specs.Marks.{StayMade, mark_at}
use Rattle.row_marks.specs.declared.mark_column.MarkColumn.{MarkColumn}
use Rattle.row_marks.proofs.marked.Marked.make_on.Goals as goal

pub returns-clause-marked : goal.returns-clause-marked
returns-clause-marked g c = λ are i h.
    let w = world_of c.args.world.now in
    let e = bound_expr_of c.args.self.now.expression.now in
    let same : c.args.entry ≡ i = some_is c.args.entry i (sym c.requires ∙ h) in
    ((are i h).0, c.put.ensures.marks (mark_on w i e) (are i h).1 (c.in_ok-mark.ensures ∙ ap (λ k. mark_on w k e c.args.number) same), (are i h).2)

pub returns-clause-made : goal.returns-clause-made
returns-clause-made g c = λ are lt.
    subst (λ o. OnOk c.put.result (mark_at c.put.new.self c.args.number ≡ Some o)) c.in_ok-mark.ensures c.put.ensures.put

-- the mark that is put is of a row of which there was none
stays : {X A : Type 0} (f : X → Outcome) (o : Option X) (old new : MarkColumn A) (n : ℕ) → option_map f o ≡ mark_at old n → is_some o ≡ false → ((k : ℕ) → k ≢ n → mark_at new k ≡ mark_at old k) → StayMade old new
stays f None old new n is none others k m h = others k (λ same. none_is_not m (is ∙ sym (ap (mark_at old) same) ∙ h)) ∙ h
stays f (Some x) old new n is none others k m h = absurd (true≢false none)

pub returns-clause-stay : goal.returns-clause-stay
returns-clause-stay g c = stays (λ m. outcome_of m.now) c.get.result c.args.self.now.marks c.put.new.self c.args.number c.get.ensures (sym c.is_some.ensures ∙ c.if-is_some.false) c.put.ensures.others
