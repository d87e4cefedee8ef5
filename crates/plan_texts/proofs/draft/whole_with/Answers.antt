use Rattle.std.proofs.Common.{Some, ap, ◌∙◌}
use Rattle.std.specs.Prelude.{map}
use Rattle.std.proofs.lemmas.List.{map_push}
use Rattle.algebra.specs.View.{step_of}
use Rattle.plan_texts.specs.Reading.{Whole}
use Rattle.plan_texts.specs.View.{plan_of}
use Rattle.plan_texts.proofs.Additions.{other_whole}
use Rattle.plan_texts.proofs.draft.whole_with.Goals as goal

pub returns-in_ok-push-in-Step : goal.returns-in_ok-push-in-Step
returns-in_ok-push-in-Step g c =
    rw c.in-Step.is
    (ap (λ steps. Some (Whole (record (plan_of c.args.plan) { trail = steps }))) (ap (map step_of) c.in_ok-push-in-Step.ensures.ok ∙ map_push step_of c.args.plan.trail c.in-Step.step))

pub returns-in_default : goal.returns-in_default
returns-in_default g c = other_whole c.args.line (plan_of c.args.plan) c.in_default.not-Step
