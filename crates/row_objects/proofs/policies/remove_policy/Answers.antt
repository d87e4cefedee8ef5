use Rattle.std.proofs.Common.{◌∙◌, ap, map}
use Rattle.row_objects.specs.Policies.{without_policy}
use Rattle.row_objects.specs.View.{policy_of}
use Rattle.row_objects.proofs.policies.remove_policy.Goals as goal

pub returns : goal.returns
returns g c =
    ap (λ ps. map (λ p. policy_of p) ps) c.from.ensures ∙ c.keep_others.ensures
    ∙ ap (λ ps. without_policy c.args.name.now (map (λ p. policy_of p) ps)) (c.into_vec-list.ensures ∙ c.replace.ensures.value)
