-- The guards, the indexes and the conditions that plans of a query are made from.
use Rattle.std.specs.Prelude.{ℕ, ◌-◌, List, length}
use Rattle.expr.specs.Bound.{BoundExpr}
use Rattle.tuples.specs.Guards.{Guard}

-- of each entry its guard and the numbers, from 1, of the columns that have an index; the conditions of the planning list; and of each
-- left joined entry its ON: these entries are the last
pub record Setting : Type 0 where
  pub frame : List Guard
  pub indexed : List (List ℕ)
  pub conditions : List BoundExpr
  pub lefts : List BoundExpr

-- so many entries come before the left joined ones
abbrev pub inner_count : Setting → ℕ
inner_count at = length at.frame - length at.lefts
