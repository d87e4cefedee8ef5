use Rattle.std.proofs.Common.{◌≡◌, ◌∙◌, map, ap₂}
use Rattle.std.proofs.lemmas.Result.{IfOk-weaker}
use Rattle.row_terms.specs.View.{term_of}
use Rattle.algebra.specs.View.{step_of}
use Rattle.trailcheck.specs.Verdicts.{verdict}
use Rattle.trailcheck.specs.View.{setting_of}
use Rattle.plan_texts.specs.View.{plan_of}
use Rattle.scope.specs.View.{entries_of}
use Rattle.bound_plans.specs.LeftJoins.{is_of_query}
use Rattle.engine.specs.Audits.{judged}
use Rattle.engine.proofs.Judging.{judged_is}
use Rattle.engine.proofs.auditing.judged.Goals as goal

pub returns : goal.returns
returns g c =
    let at = setting_of c.args.setting.now in
    let x = term_of c.args.written in
    let es = entries_of c.args.entries.now in
    let p = plan_of c.args.plan.now in
    IfOk-weaker c.judge.result _ (λ v. v ≡ judged at x es p)
    (λ v h. judged_is at x es p c.in_ok-is_of_query.field-0 v
    (c.in_ok-is_of_query.ensures ∙ ap₂ (λ cs ls. is_of_query es cs ls p) c.as_slice-conditions.ensures c.as_slice.ensures)
    c.if-not-branch.false
    (h ∙ ap₂ (λ ss code. verdict at x (map step_of ss) code) c.as_slice-2.ensures c.in_ok-code.ensures))
    c.judge.ensures
