use Rattle.std.proofs.Common.{◌≡◌, ◌∙◌, ◌-◌, ap, map, replicate}
use Rattle.std.proofs.lemmas.Result.{on_ok_weaker}
use Rattle.row_terms.specs.declared.path.Branch.TheVariants.{First}
use Rattle.algebra.specs.View.{step_of}
use Rattle.rewrite.proofs.TurningSteps.{turning_added}
use Rattle.rewrite.proofs.turning.push_turning.Goals as goal

pub returns : goal.returns
returns g c =
    let above : c.in_ok-path.path ≡ replicate (c.args.count - 1 - c.args.under) First = c.in_ok-path.ensures ∙ ap (λ n. replicate n First) (c.saturating_sub-2.ensures ∙ ap (λ n. n - c.args.under) c.saturating_sub.ensures) in
    on_ok_weaker c.push_upward-2.result
    (λ n. turning_added c.args.count c.args.under c.args.lefts (map step_of c.args.trail.now) (map step_of c.push_downward.new.trail) (map step_of c.push_making_inner.new.trail) (map step_of c.push_upward.new.trail) (map step_of c.push_upward-2.new.trail)
    c.as_slice.result.now c.as_slice-2.result.now c.as_slice-4.result.now c.as_slice-3.result.now (c.as_slice.ensures ∙ above) (c.as_slice-2.ensures ∙ above) (c.as_slice-4.ensures ∙ above) (c.as_slice-3.ensures ∙ c.in_ok-node.ensures)
    c.in_ok-push_downward.ensures c.in_ok-push_making_inner.ensures c.in_ok-push_upward.ensures n)
    c.push_upward-2.ensures
