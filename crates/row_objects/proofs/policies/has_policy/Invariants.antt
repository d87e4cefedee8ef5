use Rattle.std.proofs.Common.{◌≡◌, drop, map}
use Rattle.row_objects.specs.Policies.{has_policy}
use Rattle.row_objects.specs.View.{policy_of}
use Rattle.row_objects.proofs.policies.has_policy.Given as goal

abbrev pub invariant-loop-policy : goal.invariant-loop-policy
invariant-loop-policy g l = has_policy (map (λ p. policy_of p) (drop l.policy-index l.policies)) l.name ≡ has_policy (map (λ p. policy_of p) l.policies) l.name
