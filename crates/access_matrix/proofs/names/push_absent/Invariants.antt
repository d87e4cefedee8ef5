use Rattle.std.proofs.Common.{◌≡◌, ◌++◌, drop, filter, map}
use Rattle.std.specs.Prelude.{not}
use Rattle.access_matrix.specs.Changes.{is_among}
use Rattle.access_matrix.proofs.names.push_absent.Given as goal

abbrev pub invariant-loop-name : goal.invariant-loop-name
invariant-loop-name g l =
    map (λ n. n.now) l.all ++ filter (λ name. not (is_among name (map (λ n. n.now) l.others))) (map (λ n. n.now) (drop l.name-index l.names))
    ≡ map (λ n. n.now) l.fn.all ++ filter (λ name. not (is_among name (map (λ n. n.now) l.others))) (map (λ n. n.now) l.names)
