use Rattle.std.proofs.Common.{◌≡◌, ◌++◌, drop, filter, map}
use Rattle.value.specs.Columns.{column_of}
use Rattle.row_objects.specs.View.{table_of}
use Rattle.access.specs.Access.{granted, select_on}
use Rattle.access_matrix.specs.Reading.{read_columns}
use Rattle.access_matrix.proofs.reading.read_columns.Given as goal

abbrev pub invariant-loop-column : goal.invariant-loop-column
invariant-loop-column g l =
    map (λ n. n.now) l.names ++ filter (λ name. granted l.catalog l.role (select_on (table_of l.table) name)) (map (λ c. c.name) (map (λ c. column_of c) (drop l.column-index l.columns)))
    ≡ read_columns l.catalog l.role (table_of l.table)
