use Rattle.std.proofs.Common.{◌≡◌, drop, filter, map}
use Rattle.std.specs.Prelude.{string_bytes}
use Rattle.row_objects.specs.View.{policy_of}
use Rattle.access.specs.Access.{applies}
use Rattle.access_matrix.specs.Reasons.{policies_words}
use Rattle.access_matrix.proofs.Joined.{after}
use Rattle.access_matrix.proofs.reasons.policies_words.Given as goal

abbrev pub invariant-loop-policy : goal.invariant-loop-policy
invariant-loop-policy g l =
    after (string_bytes l.words) (filter (applies l.catalog l.role) (map (λ p. policy_of p) (drop l.policy-index l.policies))) ≡ policies_words (filter (applies l.catalog l.role) (map (λ p. policy_of p) l.policies))
