use Rattle.std.proofs.Common.{map}
use Rattle.row_ast.specs.View.{query_of}
use Rattle.resolve.specs.View.{joined_table_of}
use Rattle.resolve.proofs.LeftTables.{all_tables}
use Rattle.resolve.proofs.from.tables_of.Goals as goal

pub returns : goal.returns
returns g c =
    all_tables (query_of c.args.query.now) (map (λ j. joined_table_of j) c.in_ok-tables.tables) _ c.last_first-first.result (rw c.as_slice.ensures at c.in_ok-tables.ensures) (rw c.as_slice-2.ensures at c.last_first-first.ensures)
    (rw c.as_slice-3.ensures at c.in_ok-push_lefts.ensures)
