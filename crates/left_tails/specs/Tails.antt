-- The sizes and costs of left joined entries, which are the last, in the order of FROM.
use Rattle.std.specs.Prelude.{ℕ, suc, ◌+◌, ◌*◌, Bool, ◌==◌, nat_le, ◌&&◌, max, min, List, [], ◌∷◌, filter, map}
use Rattle.std.specs.List.{fold, list_all, list_any}
use Rattle.expr.specs.declared.code.CodeStep.{CodeStep}
use Rattle.expr.specs.declared.code.Method.{Method}
use Rattle.expr.specs.declared.code.Method.TheVariants.{Nested, Hash, Merge}
use Rattle.expr.specs.Bound.{BoundExpr}
use Rattle.stats.specs.Card.{Selection, most_rows, reduced, rows_at}
use Rattle.stats.specs.Factors.{factor}
use Rattle.stats.specs.Statistics.{Stats}

-- so many combinations with the rows on which an ON of that factor is true: no fewer than before
abbrev pub left_times : ℕ → (rows factor : ℕ) → ℕ
left_times v rows f = max v (reduced (min (v * rows) most_rows) f)

-- the condition names the entry, and no later one
abbrev pub is_completed : (entry : ℕ) → Selection → Bool
is_completed i s = list_any (λ id. id.entry == i) s.columns && list_all (λ id. nat_le id.entry i) s.columns

-- by nested loops each pair; or each combination sought in a table of the rows, which takes two for each; no rows count as one
abbrev pub left_join_cost : List Stats → ℕ → (entry : ℕ) → Method → ℕ
left_join_cost of v i Nested = v * max 1 (rows_at of i)
left_join_cost of v i (Hash conjunct) = v + 2 * max 1 (rows_at of i)
left_join_cost of v i (Merge conjunct) = 0

module _ (of : List Stats) (conditions : List Selection) where
  -- the estimated number of combinations after a left joined entry, of so many before it: as many as pass its ON and no fewer than
  -- before, reduced by each condition whose last entry it is
  abbrev pub size_with_left : ℕ → (entry : ℕ) → (on : BoundExpr) → ℕ
  size_with_left v i on = fold reduced (left_times v (rows_at of i) (factor of on)) (map (λ s. s.factor) (filter (is_completed i) conditions))

  -- and after all those from an entry on
  abbrev pub size_with_lefts : ℕ → (entry : ℕ) → (ons : List BoundExpr) → ℕ
  size_with_lefts v i [] = v
  size_with_lefts v i (on ∷ ons) = size_with_lefts (size_with_left v i on) (suc i) ons

  -- the steps of the left joined entries from one on: all rows of each are read, and joined to so many combinations
  abbrev pub tail_cost : ℕ → (entry : ℕ) → (ons : List BoundExpr) → List CodeStep → ℕ
  tail_cost v i (on ∷ ons) (s ∷ ss) = left_join_cost of v i s.method + rows_at of i + tail_cost (size_with_left v i on) (suc i) ons ss
  tail_cost v i _ _ = 0
