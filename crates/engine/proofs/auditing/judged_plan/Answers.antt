use Rattle.std.proofs.Common.{◌≡◌, ◌∙◌, length, sym, ap, ap₂}
use Rattle.std.proofs.lemmas.List.{length-map}
use Rattle.std.proofs.lemmas.Result.{IfOk-weaker}
use Rattle.expr.specs.View.{bound_query_of}
use Rattle.row_terms.specs.View.{term_of}
use Rattle.row_terms.specs.Written.{written}
use Rattle.plan_texts.specs.View.{plan_of}
use Rattle.scope.specs.View.{entries_of, entry_of}
use Rattle.resolve.specs.View.{bound_of}
use Rattle.engine.specs.Audits.{judged}
use Rattle.engine.specs.Settings.{setting}
use Rattle.engine.proofs.auditing.judged_plan.Goals as goal

pub returns : goal.returns
returns g c =
    let b = bound_of c.args.bound.now in
    let at = setting c.args.catalog.now c.args.role.now b in
    let p = plan_of c.args.plan.now in
    let term = c.in_ok-written.ensures ∙ ap₂ written (ap length c.as_slice-entries.ensures ∙ sym (length-map c.args.bound.now.entries (λ e. entry_of e))) (ap bound_query_of c.deref.ensures) in
    IfOk-weaker c.judged.result _ (λ v. v ≡ judged at (written (length b.entries) b.query) b.entries p)
    (λ v h. h ∙ ap (λ s. judged s (term_of c.in_ok-written.written) (entries_of c.as_slice-entries.result.now) p) c.in_ok-setting.ensures.value
    ∙ ap₂ (λ x es. judged at x (entries_of es) p) term c.as_slice-entries.ensures)
    c.judged.ensures
