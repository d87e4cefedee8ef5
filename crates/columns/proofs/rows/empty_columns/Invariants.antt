use Rattle.std.proofs.Common.{◌≡◌, length, map, take, All}
use Rattle.value.specs.Columns.{columns_of}
use Rattle.columns.specs.Data.{cells_of, type_of}
use Rattle.columns.specs.Rows.{types_of}
use Rattle.columns.proofs.rows.empty_columns.Given as goal

abbrev pub invariant-loop-column : goal.invariant-loop-column
invariant-loop-column g l = record {
  types : map type_of l.made.items ≡ types_of (columns_of (take l.column-index l.columns));
  none : All (λ cells. length cells ≡ 0) (map cells_of l.made.items);
}
