use Rattle.std.proofs.Common.{◌≡◌, ◌++◌, drop}
use Rattle.std.specs.Prelude.{codes, string_bytes}
use Rattle.std.specs.List.{flat_map}
use Rattle.access_matrix.proofs.words.push_further.Given as goal

abbrev pub invariant-loop-name : goal.invariant-loop-name
invariant-loop-name g l = string_bytes l.words ++ flat_map (λ n. codes ", " ++ n.now) (drop l.name-index l.names) ≡ string_bytes l.fn.words ++ flat_map (λ n. codes ", " ++ n.now) l.names
