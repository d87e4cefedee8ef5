use Rattle.std.proofs.Common.{◌≡◌, ◌++◌, drop, map}
use Rattle.access_matrix.proofs.names.table_names.Given as goal

abbrev pub invariant-loop-index : goal.invariant-loop-index
invariant-loop-index g l = map (λ n. n.now) l.names ++ map (λ x. x.name) (drop l.index l.catalog.tables) ≡ map (λ x. x.name) l.catalog.tables
