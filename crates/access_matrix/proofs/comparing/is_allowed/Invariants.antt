use Rattle.std.proofs.Common.{◌≡◌, drop, map}
use Rattle.std.specs.List.{list_any}
use Rattle.access_matrix.specs.Changes.{is_pair}
use Rattle.access_matrix.specs.Sights.{pair_of}
use Rattle.access_matrix.proofs.comparing.is_allowed.Given as goal

abbrev pub invariant-loop-other : goal.invariant-loop-other
invariant-loop-other l = list_any (λ other. is_pair (pair_of l.pair) other) (map (λ p. pair_of p) (drop l.other-index l.allowed)) ≡ list_any (λ other. is_pair (pair_of l.pair) other) (map (λ p. pair_of p) l.allowed)
