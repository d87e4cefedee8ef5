-- What an expression gives on each of the rows of a table, where it faults on none.
use Rattle.std.specs.Prelude.{◌≡◌, List, map, Ok}
use Rattle.value.specs.Datum.{Datum, Row}
use Rattle.value.specs.Names.{Name}
use Rattle.value.specs.declared.order.Truth.{Truth}
use Rattle.expr.specs.Bound.{BoundExpr}
use Rattle.eval.specs.Meaning.{condition, meaning}
use Rattle.tuples.specs.Rows.{cells_of}

-- its value on each row
abbrev pub AreValues : Name → List Row → BoundExpr → List Datum → Type 0
AreValues role rows e values = map (λ row. meaning (cells_of row) role e) rows ≡ map Ok values

-- its truth value as a condition on each row
abbrev pub AreTruths : Name → List Row → BoundExpr → List Truth → Type 0
AreTruths role rows e truths = map (λ row. condition (meaning (cells_of row) role e)) rows ≡ map Ok truths
