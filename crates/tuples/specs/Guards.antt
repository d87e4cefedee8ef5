-- Which rows of a table a role sees, and the test of a row by it.
use Rattle.std.specs.Prelude.{◌≡◌, Bool, true, false, List, map}
use Rattle.value.specs.Datum.{Row}
use Rattle.value.specs.Names.{Name}
use Rattle.expr.specs.Bound.{BoundExpr}
use Rattle.eval.specs.Meaning.{holds}
use Rattle.tuples.specs.Rows.{cells_of}

pub data Guard : Type 0 where
  -- every row
  All : Guard
  -- no row
  None : Guard
  -- the rows on which the expression is true
  Expr : BoundExpr → Guard

-- the guard lets the role see a row
abbrev pub shows : Name → Guard → Row → Bool
shows r All row = true
shows r None row = false
shows r (Expr e) row = holds (cells_of row) r e

-- of each row whether the guard shows it to the role
abbrev pub AreSeen : Name → Guard → List Row → List Bool → Type 0
AreSeen role guard rows seen = seen ≡ map (shows role guard) rows
