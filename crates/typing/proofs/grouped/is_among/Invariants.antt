use Rattle.std.proofs.Common.{◌≡◌, drop}
use Rattle.std.specs.List.{list_any}
use Rattle.expr.specs.Bound.{is_column}
use Rattle.typing.proofs.grouped.is_among.Given as goal

abbrev pub invariant-loop-other : goal.invariant-loop-other
invariant-loop-other l = list_any (is_column l.id) (drop l.other-index l.group_by) ≡ list_any (is_column l.id) l.group_by
