use Rattle.std.proofs.Common.{◌&&◌, suc, map, ap, ◌∙◌}
use Rattle.std.proofs.lemmas.Result.{IfOk-weaker}
use Rattle.scope.specs.View.{entries_of}
use Rattle.plan_texts.specs.View.{on_of}
use Rattle.bound_plans.specs.LeftJoins.{are_conditions, are_numbered}
use Rattle.bound_plans.proofs.left_joins.are_ons.Goals as goal

pub returns-then-are_numbered : goal.returns-then-are_numbered
returns-then-are_numbered g c =
    let entries = entries_of c.args.entries.now in
    let ons = map on_of c.args.ons.now in
    IfOk-weaker c.are_conditions.result _ _
    (λ b e. e ∙ ap (λ t. t && are_conditions entries ons c.args.lefts.now) (c.if-are_numbered.ensures ∙ ap (λ n. are_numbered (suc n) ons) c.inner_count.ensures))
    c.are_conditions.ensures
