use Rattle.std.proofs.Common.{◌∙◌, ap, map}
use Rattle.std.proofs.lemmas.Result.{on_ok_weaker}
use Rattle.algebra.specs.View.{step_of}
use Rattle.rewrite.specs.Trails.{plain}
use Rattle.rewrite.specs.Turning.{upward}
use Rattle.rewrite.proofs.Below.{none_added}
use Rattle.rewrite.proofs.TurningSteps.{upward_next}
use Rattle.rewrite.proofs.turning.+push_upward.Goals as goal

pub returns-then-count-eq0 : goal.returns-then-count-eq0
returns-then-count-eq0 g t c = none_added c.args.path.now (map step_of c.args.trail.now) _ (ap (λ n. upward n (plain c.args.rule c.args.is_reverse)) c.if-count-eq0.true)

pub returns : goal.returns
returns g t c =
    on_ok_weaker c.push_upward.result
    (λ n. upward_next c.args.path.now (map step_of c.args.trail.now) (map step_of c.push_plain.new.trail) (map step_of c.push_upward.new.trail) (plain c.args.rule c.args.is_reverse) c.args.count c.as_slice.result.now c.if-count-eq0.false
    (c.as_slice.ensures ∙ c.in_ok-node.ensures) c.in_ok-push_plain.ensures n)
    c.push_upward.ensures
