use Rattle.std.proofs.Common.{◌≡◌, ◌++◌, drop, length}
use Rattle.tabular.specs.Tables.{columns, columns_from}
use Rattle.tabular.proofs.widths.columns.Given as goal

abbrev pub invariant-loop-heading : goal.invariant-loop-heading
invariant-loop-heading g l =
    (length l.found.items ≡ l.heading-index)
    × (l.found.items ++ columns_from l.heading-index (drop l.heading-index l.headings) l.to_right l.rows ≡ columns l.headings l.to_right l.rows)
