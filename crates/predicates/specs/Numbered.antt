-- The conditions of a list by their numbers.
use Rattle.std.specs.Prelude.{ℕ, zero, suc, List, Option, None, slice_get}
use Rattle.expr.specs.Bound.{BoundExpr}

-- the condition of that number, from 1
abbrev pub numbered : List BoundExpr → (number : ℕ) → Option BoundExpr
numbered conditions zero = None
numbered conditions (suc k) = slice_get conditions k
