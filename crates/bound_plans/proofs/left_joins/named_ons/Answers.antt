use Rattle.std.proofs.Common.{◌+◌, map, ap, ◌∙◌}
use Rattle.memory.proofs.Lists.{pushed}
use Rattle.row_ast.specs.View.{expr_of}
use Rattle.scope.specs.View.{entries_of}
use Rattle.plan_texts.specs.Plans.{OnCondition}
use Rattle.plan_texts.specs.View.{on_of}
use Rattle.bound_plans.specs.Named.{named}
use Rattle.bound_plans.proofs.Ons.{named_start, named_next}
use Rattle.bound_plans.proofs.left_joins.named_ons.Goals as goal

pub loop-index-init : goal.loop-index-init
loop-index-init g c = named_start on_of (entries_of c.args.entries.now) c.args.lefts.now c.new-ons.result c.inner_count-inner.result c.new-ons.ensures c.inner_count-inner.ensures

pub loop-index-preserved : goal.loop-index-preserved
loop-index-preserved g c =
    let entries = entries_of c.args.entries.now in
    let i = c.inner_count-inner.result in
    let k = c.loop-index.index in
    named_next on_of entries c.args.lefts.now i k (map on_of c.loop-index.ons) _ c.loop-index.invariant c.index-lefts-index.result c.loop-index-test.true c.index-lefts-index.is c.push.new.self
    (pushed on_of c.loop-index.ons c.push.new.self _ _ c.in_ok-push.ensures.ok
    (ap (λ e. let o : OnCondition = record { entry = i + 1 + k; condition = e } in o) (ap expr_of c.into_inner.ensures ∙ c.in_ok-condition.ensures ∙ ap (named entries) c.expression.ensures.value)))
