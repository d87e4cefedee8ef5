use Rattle.std.proofs.Common.{◌∙◌, [], ◌∷◌, length, sym, map, rules}
use Rattle.std.proofs.lemmas.Result.{on_ok_weaker}
use Rattle.algebra.specs.View.{step_of}
use Rattle.rewrite.specs.Placing.{clearing, emptying}
use Rattle.rewrite.specs.Trails.{at_root}
use Rattle.rewrite.proofs.Added.{rest_of, filters_added, emptying_split}
use Rattle.rewrite.proofs.placing.+push_emptying.Goals as goal

pub returns : goal.returns
returns g t c =
    on_ok_weaker c.push_clearing.result
    (λ n. filters_added (map step_of c.args.trail.now) (map step_of c.push_step.new.trail) (map step_of c.push_clearing.new.trail) (clearing (length (rest_of c.args.conditions.now))) (emptying c.args.conditions.now)
    (length (rest_of c.args.conditions.now)) c.as_slice.result.now (at_root 15 ∷ []) (c.as_slice.ensures ∙ c.in_ok-path.ensures) c.in_ok-push_step.ensures n
    (emptying_split c.args.conditions.now c.condition-item.result c.in-len1-up.len_at_least c.condition-item.is (sym c.is_never_true.ensures ∙ search rules)))
    c.push_clearing.ensures
