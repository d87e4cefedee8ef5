use Rattle.std.proofs.Common.{◌≡◌, ◌++◌, drop, length, map}
use Rattle.row_ast.specs.View.{from_item_of}
use Rattle.resolve.specs.Entries.{joined}
use Rattle.resolve.specs.View.{joined_table_of}
use Rattle.resolve.proofs.from.joined.Given as goal

abbrev pub invariant-loop-item : goal.invariant-loop-item
invariant-loop-item g l = map (λ j. joined_table_of j) l.tables ++ joined (length (map (λ j. joined_table_of j) l.tables)) (map (λ f. from_item_of f) (drop l.item-index l.from)) ≡ joined 0 (map (λ f. from_item_of f) l.from)
