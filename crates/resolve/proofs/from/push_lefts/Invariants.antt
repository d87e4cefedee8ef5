use Rattle.std.proofs.Common.{◌≡◌, ◌++◌, drop, map}
use Rattle.row_ast.specs.View.{left_join_of}
use Rattle.resolve.specs.Entries.{left_table}
use Rattle.resolve.specs.View.{joined_table_of}
use Rattle.resolve.proofs.from.push_lefts.Given as goal

abbrev pub invariant-loop-left_join : goal.invariant-loop-left_join
invariant-loop-left_join g l =
    map (λ j. joined_table_of j) l.tables ++ map (left_table l.first) (map (λ j. left_join_of j) (drop l.left_join-index l.lefts))
    ≡ map (λ j. joined_table_of j) l.fn.tables ++ map (left_table l.first) (map (λ j. left_join_of j) l.lefts)
