use Rattle.std.proofs.Common.{◌≡◌, ◌++◌, drop}
use Rattle.value.specs.Datum.{row_of}
use Rattle.groups.specs.Members.{key_on}
use Rattle.groups.proofs.members.key_on.Given as goal

abbrev pub invariant-loop-column : goal.invariant-loop-column
invariant-loop-column g l = row_of l.key ++ key_on (g.R.Row.cells l.row) (drop l.column-index l.columns) ≡ key_on (g.R.Row.cells l.row) l.columns
