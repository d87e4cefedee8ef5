use Rattle.std.proofs.Common.{◌≡◌, ◌++◌, drop}
use Rattle.row_objects.proofs.copies.push_names.Given as goal

abbrev pub invariant-loop-name : goal.invariant-loop-name
invariant-loop-name g l = l.list ++ drop l.name-index l.names ≡ l.fn.list ++ l.names
