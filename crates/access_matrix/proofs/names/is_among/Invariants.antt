use Rattle.std.proofs.Common.{◌≡◌, drop, map}
use Rattle.access_matrix.specs.Changes.{is_among}
use Rattle.access_matrix.proofs.names.is_among.Given as goal

abbrev pub invariant-loop-other : goal.invariant-loop-other
invariant-loop-other l = is_among l.name (map (λ n. n.now) (drop l.other-index l.names)) ≡ is_among l.name (map (λ n. n.now) l.names)
