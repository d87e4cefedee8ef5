use Rattle.std.proofs.Common.{◌∙◌, sym, ap}
use Rattle.plan_texts.specs.Reading.{plan_at}
use Rattle.bound_plans.specs.Entries.{plan_entries}
use Rattle.scope.specs.View.{entries_of}
use Rattle.resolve.specs.View.{bound_of}
use Rattle.engine.specs.Audits as spec
use Rattle.engine.specs.Audits.{Judged}
use Rattle.engine.proofs.auditing.audit_bound.Goals as goal

pub returns-in_ok-judged_plan-in-Ok : goal.returns-in_ok-judged_plan-in-Ok
returns-in_ok-judged_plan-in-Ok g c =
    let entries = ap (λ es. plan_entries (entries_of es)) c.as_slice.ensures in
    ap Judged c.in_ok-judged_plan-in-Ok.ensures
    ∙ ap (spec.audit_of c.args.catalog.now c.args.role.now (bound_of c.args.bound.now)) (sym c.in-Ok.ensures ∙ ap (λ es. plan_at es c.args.plan.now) entries)
