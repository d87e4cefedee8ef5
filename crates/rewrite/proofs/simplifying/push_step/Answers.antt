use Rattle.std.proofs.Common.{◌∙◌, ap, ◌++◌, [], ◌∷◌, map, sym}
use Rattle.std.proofs.lemmas.Result.{on_ok_weaker}
use Rattle.algebra.specs.View.{step_of}
use Rattle.rewrite.specs.Trails.{at_root, below_path}
use Rattle.rewrite.proofs.Below.{filters_below}
use Rattle.rewrite.proofs.simplifying.push_step.Goals as goal

pub returns : goal.returns
returns g c =
    on_ok_weaker c.push_step.result
    (λ n. n ∙ ap (λ p. map step_of c.args.trail.now ++ below_path p (at_root c.args.rule ∷ [])) (c.as_slice.ensures ∙ c.in_ok-path.ensures) ∙ ap (λ l. map step_of c.args.trail.now ++ l) (sym (filters_below c.args.depth (at_root c.args.rule ∷ []))))
    c.push_step.ensures
