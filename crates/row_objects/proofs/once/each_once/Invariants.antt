use Rattle.std.proofs.Common.{◌≡◌, drop}
use Rattle.row_objects.specs.EachOnce.{each_once, with_names}
use Rattle.row_objects.proofs.once.each_once.Given as goal

abbrev pub invariant-loop-name : goal.invariant-loop-name
invariant-loop-name g l = with_names l.once (drop l.name-index l.names) ≡ each_once l.names
