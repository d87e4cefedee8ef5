use Rattle.std.proofs.Common.{◌≡◌, drop, map, is_some}
use Rattle.std.specs.List.{list_all}
use Rattle.value.specs.Columns.{column_of}
use Rattle.row_objects.specs.ColumnNames.{column_named}
use Rattle.row_objects.proofs.names.have_names.Given as goal

abbrev pub invariant-loop-name : goal.invariant-loop-name
invariant-loop-name g l =
    list_all (λ name. is_some (column_named name (map (λ c. column_of c) l.columns))) (drop l.name-index l.names)
    ≡ list_all (λ name. is_some (column_named name (map (λ c. column_of c) l.columns))) l.names
