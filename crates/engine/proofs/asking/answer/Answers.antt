use Rattle.std.proofs.Common.{◌≡◌, Result, Ok, Err, sym, ap, ◌∙◌}
use Rattle.analysis.specs.View.{read_of}
use Rattle.analysis.proofs.Admitted.{refused_at_once}
use Rattle.engine.proofs.asking.answer.Goals as goal

never_both : {X E : Type 0} (r : Result X E) (x : X) (e : E) → r ≡ Ok x → r ≡ Err e → ⊥
never_both r x e is other = let h = sym is ∙ other in cc

pub answer_query-reply-requires : goal.answer_query-reply-requires
answer_query-reply-requires g c =
    let read = (rw c.catalog.ensures.catalog at c.in_ok-query.ensures.read) in
    sym read ∙ ap read_of c.in-Ok.is

-- a text that is refused at once has no query
pub returns-in-Ok-clause-at_once : goal.returns-in-Ok-clause-at_once
returns-in-Ok-clause-at_once g c = λ e.
    let read = (rw c.catalog.ensures.catalog at c.in_ok-query.ensures.read) in
    let refused = refused_at_once c.args.store.now.catalog c.args.role.now c.args.text.now e in
    absurd (never_both _ _ _ (sym read ∙ ap read_of c.in-Ok.is) refused.1)
