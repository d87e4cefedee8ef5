use Rattle.std.proofs.Common.{◌≡◌, ◌++◌, drop}
use Rattle.value.specs.Columns.{columns_of}
use Rattle.bound_plans.specs.Entries.{column_names}
use Rattle.bound_plans.proofs.entries.column_names.Given as goal

abbrev pub invariant-loop-column : goal.invariant-loop-column
invariant-loop-column g l = l.names ++ column_names (columns_of (drop l.column-index l.columns)) ≡ column_names (columns_of l.columns)
