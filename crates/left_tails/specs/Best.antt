-- The best steps of left joined entries.
use Rattle.std.specs.Prelude.{◌≡◌, ℕ, suc, nat_lt, true, List, [], ◌∷◌, Option, Some, None, if◌then◌else◌}
use Rattle.expr.specs.declared.code.Access.TheVariants.{Full}
use Rattle.expr.specs.declared.code.CodeStep.{CodeStep}
use Rattle.expr.specs.declared.code.Method.{Method}
use Rattle.expr.specs.declared.code.Method.TheVariants.{Nested, Hash}
use Rattle.expr.specs.Bound.{BoundExpr}
use Rattle.stats.specs.Card.{Selection}
use Rattle.stats.specs.Statistics.{Stats}
use Rattle.trailcheck.specs.Admissible.{are_left_steps}
use Rattle.trailcheck.specs.Equalities.{first_equality}
use Rattle.left_tails.specs.Plans.{IsNoWorse}
use Rattle.left_tails.specs.Tails.{left_join_cost, size_with_left, tail_cost}

-- no steps that the left joined entries from one on may have are better
abbrev pub IsBestTail : List Stats → List Selection → ℕ → (entry : ℕ) → (ons : List BoundExpr) → List CodeStep → Type 0
IsBestTail of conditions v i ons ss =
    (other : List CodeStep) → are_left_steps i ons other ≡ true → IsNoWorse (tail_cost of conditions v i ons ss, ss) (tail_cost of conditions v i ons other, other)

-- ---- how they are found

module _ (of : List Stats) where
  -- nested loops, or a hash table by the conjunct of that number, if there is one and it costs less
  abbrev pub better_method : ℕ → (entry : ℕ) → (number : Option ℕ) → Method
  better_method v i None = Nested
  better_method v i (Some k) = if nat_lt (left_join_cost of v i (Hash k)) (left_join_cost of v i Nested) then Hash k else Nested

  -- the best step of an entry after so many combinations
  abbrev pub best_left_step : ℕ → (entry : ℕ) → (on : BoundExpr) → CodeStep
  best_left_step v i on = record { entry = suc i; access = Full; method = better_method v i (first_equality i on) }

  -- those of the entries from one on
  abbrev pub best_tail : List Selection → ℕ → (entry : ℕ) → (ons : List BoundExpr) → List CodeStep
  best_tail conditions v i [] = []
  best_tail conditions v i (on ∷ ons) = best_left_step v i on ∷ best_tail conditions (size_with_left of conditions v i on) (suc i) ons
