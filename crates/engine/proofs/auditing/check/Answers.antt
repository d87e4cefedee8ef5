use Rattle.std.proofs.Common.{◌≡◌, ◌∙◌, length, map, sym, ap, ap₂}
use Rattle.std.proofs.lemmas.List.{length-map}
use Rattle.std.proofs.lemmas.Result.{IfOk-weaker}
use Rattle.expr.specs.View.{bound_query_of, code_of}
use Rattle.algebra.specs.View.{step_of}
use Rattle.row_terms.specs.Written.{written}
use Rattle.trailcheck.specs.Verdicts.{verdict}
use Rattle.scope.specs.View.{entry_of}
use Rattle.resolve.specs.View.{bound_of}
use Rattle.engine.specs.Settings.{setting}
use Rattle.engine.proofs.auditing.check.Goals as goal

pub returns : goal.returns
returns g c =
    let b = bound_of c.args.bound.now in
    let at = setting c.args.catalog.now c.args.role.now b in
    let steps = map step_of c.args.trail.now in
    let code = code_of c.args.code.now in
    let term = c.in_ok-written.ensures ∙ ap₂ written (c.len.ensures ∙ sym (length-map c.args.bound.now.entries (λ e. entry_of e))) (ap bound_query_of c.deref.ensures) in
    IfOk-weaker c.judge.result _ (λ v. v ≡ verdict at (written (length b.entries) b.query) steps code)
    (λ v h. h ∙ ap₂ (λ s x. verdict s x steps code) c.in_ok-setting.ensures.value term)
    c.judge.ensures
