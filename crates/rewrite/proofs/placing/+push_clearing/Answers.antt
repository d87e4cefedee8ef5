use Rattle.std.proofs.Common.{◌∙◌, ◌-◌, [], ◌∷◌, map}
use Rattle.std.proofs.lemmas.Result.{on_ok_weaker}
use Rattle.algebra.specs.View.{step_of}
use Rattle.rewrite.specs.Placing.{clearing}
use Rattle.rewrite.specs.Trails.{at_root}
use Rattle.rewrite.proofs.Added.{filters_added, clearing_split}
use Rattle.rewrite.proofs.placing.+push_clearing.Goals as goal

pub returns : goal.returns
returns g t c =
    on_ok_weaker c.push_clearing.result
    (λ n. filters_added (map step_of c.args.trail.now) (map step_of c.push_step.new.trail) (map step_of c.push_clearing.new.trail) (clearing (c.args.filters - 1)) (clearing c.args.filters) (c.args.filters - 1) c.as_slice.result.now (at_root 16 ∷ [])
    (c.as_slice.ensures ∙ c.in_ok-path.ensures) c.in_ok-push_step.ensures n (clearing_split c.args.filters c.if-filters-eq0.false))
    c.push_clearing.ensures
