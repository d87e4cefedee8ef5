use Rattle.std.proofs.Common.{◌≡◌, ◌++◌, drop, map}
use Rattle.row_ast.specs.View.{join_of}
use Rattle.resolve.specs.Entries.{joined_by}
use Rattle.resolve.specs.View.{joined_table_of}
use Rattle.resolve.proofs.from.push_joins.Given as goal

abbrev pub invariant-loop-join : goal.invariant-loop-join
invariant-loop-join g l =
    map (λ j. joined_table_of j) l.tables ++ map (joined_by l.first) (map (λ j. join_of j) (drop l.join-index l.joins))
    ≡ map (λ j. joined_table_of j) l.fn.tables ++ map (joined_by l.first) (map (λ j. join_of j) l.joins)
