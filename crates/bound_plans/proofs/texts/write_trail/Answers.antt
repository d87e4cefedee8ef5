use Rattle.std.proofs.Common.{map, ap, ◌∙◌}
use Rattle.std.proofs.lemmas.Result.{IfOk-weaker}
use Rattle.plan_texts.specs.PlanTexts.{plan_text}
use Rattle.plan_texts.specs.View.{plan_entry_of, plan_of}
use Rattle.bound_plans.proofs.texts.write_trail.Goals as goal

pub returns : goal.returns
returns g c =
    IfOk-weaker c.write_plan.result _ _ (λ text e. e ∙ ap (λ es. plan_text es (plan_of c.args.plan.now)) (ap (map plan_entry_of) c.as_slice.ensures ∙ c.in_ok-named.ensures)) c.write_plan.ensures
