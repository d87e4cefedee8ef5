-- The entries that stay left joined in a plan are the last of those of the text.
use Rattle.std.proofs.Common.{◌≡◌, refl, ◌≤◌, ℕ, zero, suc, Bool, true, false, List, [], ◌∷◌, ◌++◌, length, length-drop, drop, is_some, subst, sym, if◌then◌else◌, arith}
use Rattle.std.specs.List.{AllByRecursion}
use Rattle.expr.specs.Bound.{BoundExpr}
use Rattle.expr.specs.BoundQuery.{BoundQuery}
use Rattle.row_terms.specs.Written.{left_conditions}
use Rattle.algebra.specs.PlanningList.{Planned, written_conditions, simplified_parts, parts_of, first_turning, turned, entries_before_lefts, is_too_long, with_consequences, without_repeats, remaining_lefts}

-- the list is another one without some first elements
abbrev pub IsLast : List BoundExpr → List BoundExpr → Type 0
IsLast ons whole = (k : ℕ) × (ons ≡ drop k whole)

turned_last : (ons : List BoundExpr) (n : ℕ) (es : List BoundExpr) → IsLast (turned n es ons).lefts ons
turned_last [] n es = (0, refl)
turned_last (on ∷ ons) n es = go (is_some (first_turning n es)) (turned_last ons (suc n) (es ++ simplified_parts (parts_of on)))
  where
    more : List BoundExpr
    more = es ++ simplified_parts (parts_of on)

    go : (b : Bool) → IsLast (turned (suc n) more ons).lefts ons → IsLast (if b then turned (suc n) more ons else record { conditions = es; lefts = on ∷ ons }).lefts (on ∷ ons)
    go true h = (suc h.0, h.1)
    go false h = (0, refl)

pub remaining_last : (q : BoundQuery) → IsLast (remaining_lefts q) (left_conditions q)
remaining_last q = go (is_too_long end.conditions) (is_too_long (with_consequences end.conditions))
  where
    end : Planned
    end = turned (entries_before_lefts q) (simplified_parts (written_conditions q)) (left_conditions q)

    as_written : Planned
    as_written = record { conditions = written_conditions q; lefts = left_conditions q }

    go : (b c : Bool) → IsLast (if b then as_written else if c then as_written else record { conditions = without_repeats (with_consequences end.conditions); lefts = end.lefts }).lefts (left_conditions q)
    go true c = (0, refl)
    go false true = (0, refl)
    go false false = turned_last (left_conditions q) (entries_before_lefts q) (simplified_parts (written_conditions q))

-- so they are no more
pub fewer_lefts : (q : BoundQuery) → length (remaining_lefts q) ≤ length (left_conditions q)
fewer_lefts q =
    let last = remaining_last q in
    let l = length-drop last.0 (left_conditions q) in
    subst (λ ons. length ons ≤ length (left_conditions q)) (sym last.1) (omega (arith, l))

-- and what holds of each ON of the text holds of theirs
module _ (P : BoundExpr → Type 0) where
  dropped_each : (ons : List BoundExpr) (k : ℕ) → AllByRecursion P ons → AllByRecursion P (drop k ons)
  dropped_each ons zero h = h
  dropped_each [] (suc k) h = tt
  dropped_each (on ∷ ons) (suc k) h = dropped_each ons k h.1

  pub remaining_each : (q : BoundQuery) → AllByRecursion P (left_conditions q) → AllByRecursion P (remaining_lefts q)
  remaining_each q h = let last = remaining_last q in subst (AllByRecursion P) (sym last.1) (dropped_each (left_conditions q) last.0 h)
