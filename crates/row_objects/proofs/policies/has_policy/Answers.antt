use Rattle.std.proofs.Common.{map, sym, ap, ◌∙◌, arith}
use Rattle.std.proofs.lemmas.List.{drop_all}
use Rattle.row_objects.specs.View.{policy_of}
use Rattle.row_objects.specs.Policies.{has_policy}
use Rattle.row_objects.proofs.policies.has_policy.Goals as goal

pub returns : goal.returns
returns g c = sym (ap (λ l. has_policy (map (λ x. policy_of x) l) c.args.name.now) (drop_all c.loop-policy.policy-index c.args.policies.now (omega (arith, c.loop-policy-test.false)))) ∙ c.loop-policy.invariant
