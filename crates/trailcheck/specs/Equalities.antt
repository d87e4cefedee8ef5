-- The equalities by which the ON of a left joined entry joins it.
use Rattle.std.specs.Prelude.{ℕ, zero, suc, ◌+◌, Bool, length, Option, Some, None, if◌then◌else◌}
use Rattle.std.specs.List.{range_with_len}
use Rattle.expr.specs.Bound.{BoundExpr}
use Rattle.expr.specs.Conjuncts.{conjuncts_of}
use Rattle.predicates.specs.Numbered.{numbered}
use Rattle.trailcheck.specs.Admissible.{equates, is_some_and}

-- the first of so many numbers, from one on, that passes the test
abbrev pub first_number : (ℕ → Bool) → (from many : ℕ) → Option ℕ
first_number test k zero = None
first_number test k (suc n) = if test k then Some k else first_number test (k + 1) n

-- the conjunct of the ON of that number equates a column of an earlier entry with one of the entry
abbrev pub is_equality : (entry : ℕ) → (on : BoundExpr) → (number : ℕ) → Bool
is_equality i on k = is_some_and (equates (range_with_len 0 i) i) (numbered (conjuncts_of on) k)

-- the number of the first conjunct that does so
abbrev pub first_equality : (entry : ℕ) → (on : BoundExpr) → Option ℕ
first_equality i on = first_number (is_equality i on) 1 (length (conjuncts_of on))
