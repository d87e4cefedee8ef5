-- The most that factors and sizes can be: a million parts, and the most rows.
use Rattle.std.proofs.Common.{◌≡◌, sym, ap, ◌∙◌, ℕ, zero, suc, ℤ, ◌+◌, ◌-◌, ◌*◌, ◌/◌, ◌≤◌, min, max, Bool, true, false, List, [], ◌∷◌, length, map, filter, Option, Some, None, if◌then◌else◌, int_lt, div-le_self, arith}
use Rattle.std.specs.Prelude.{◌-ℤ◌}
use Rattle.std.proofs.Math.Nat.{div-le_of_le-mul, le_refl, mul-add}
use Rattle.std.proofs.lemmas.Nat.{le-div, mul-le}
use Rattle.std.specs.List.{fold, range_with_len}
use Rattle.value.specs.Datum.{null, int, text, bool}
use Rattle.value.specs.declared.operators.Comparison as operators
use Rattle.value.specs.declared.operators.Comparison.TheVariants.{Equal, NotEqual, Less, LessOrEqual, Greater, GreaterOrEqual}
use Rattle.expr.specs.Bound.{BoundExpr, BoundExprs, no_expr, one_expr, Column, Literal, CurrentUser, Negate, Arithmetic, Comparison, Between, In, IsNull, Not, And, Or, Cast, Case, CountStar, Call}
use Rattle.stats.specs.declared.statistics.Bounds.{Bounds}
use Rattle.stats.specs.Card.{Entries, Selection, all_rows, card, is_about, most_rows, reduced, rows_at, selection, selections, times}
use Rattle.stats.specs.Factors.{million, third, one_of, from_zero, part, part_or, negated_if, stats_at, distinct_at, equality, less_than, comparison, range, membership, factor, all_factor, any_factor}
use Rattle.stats.specs.Statistics.{Stats}

-- ---- shares

-- a share is no more than the whole
part_within : (v f : ℕ) → f ≤ million → v * f / million ≤ v
part_within v f l = div-le_of_le-mul million (omega (arith, mul-le v f v million (le_refl v) l))

pub reduced_within : (v f most : ℕ) → f ≤ million → v ≤ most → 1 ≤ most → reduced v f ≤ most
reduced_within v f most l m n = omega (arith, part_within v f l)

module _ (f g : ℕ) (fl : f ≤ million) (gl : g ≤ million) where
  -- the rest of one factor, times the rest of the other, is no less than 0
  above_within : (f + g - million) * million ≤ f * g
  above_within =
      let rest = million - g in
      let r : f * rest ≤ million * rest = mul-le f rest million rest fl (le_refl rest) in
      let whole : f * g + f * rest ≡ f * million = sym (mul-add f g rest) ∙ ap (λ n. f * n) (omega arith) in
      omega (arith, r, whole)

  -- one condition or another passes no more than a million
  either_within : f + g - f * g / million ≤ million
  either_within = omega (arith, le-div (f + g - million) (f * g) million (omega arith) above_within)

-- ---- the factors of conditions

one_of_within : (distinct : ℕ) → one_of distinct ≤ million
one_of_within zero = omega arith
one_of_within (suc n) = div-le_self million (suc n)

least_of : (a b : ℕ) → min a b ≤ a
least_of a b = omega arith

part_or_within : (otherwise : ℕ) (share : Bounds → ℕ) (o : Option Bounds) → otherwise ≤ million → ((b : Bounds) → share b ≤ million) → part_or otherwise share o ≤ million
part_or_within otherwise share None h each = h
part_or_within otherwise share (Some b) h each = go (int_lt b.least b.greatest)
  where
    go : (c : Bool) → (if c then share b else otherwise) ≤ million
    go true = each b
    go false = h

a_part : (b : Bounds) (low high : ℤ) → part b low high ≤ million
a_part b low high = least_of million (from_zero (high -ℤ low) * million / from_zero (b.greatest -ℤ b.least))

negated_within : (b : Bool) (f : ℕ) → f ≤ million → negated_if b f ≤ million
negated_within true f h = omega arith
negated_within false f h = h

module _ (of : List Stats) where
  equality_within : (e f : BoundExpr) → equality of e f ≤ million
  equality_within (Column a) (Column b) = one_of_within (max (distinct_at of a) (distinct_at of b))
  equality_within (Column a) (Literal d) = one_of_within (distinct_at of a)
  equality_within (Column a) CurrentUser = one_of_within (distinct_at of a)
  equality_within (Literal d) (Column a) = one_of_within (distinct_at of a)
  equality_within CurrentUser (Column a) = one_of_within (distinct_at of a)
  equality_within _ _ = omega arith

  less_than_within : (e f : BoundExpr) → less_than of e f ≤ million
  less_than_within (Column a) (Literal (int v)) = part_or_within third (λ b. part b b.least v) (stats_at of a).bounds (omega arith) (λ b. a_part b b.least v)
  less_than_within (Literal (int v)) (Column a) = part_or_within third (λ b. part b v b.greatest) (stats_at of a).bounds (omega arith) (λ b. a_part b v b.greatest)
  less_than_within _ _ = omega arith

  comparison_within : (op : operators.Comparison) (e f : BoundExpr) → comparison of op e f ≤ million
  comparison_within Equal e f = equality_within e f
  comparison_within NotEqual e f = omega arith
  comparison_within Less e f = less_than_within e f
  comparison_within LessOrEqual e f = less_than_within e f
  comparison_within Greater e f = less_than_within f e
  comparison_within GreaterOrEqual e f = less_than_within f e

  range_within : (e low high : BoundExpr) → range of e low high ≤ million
  range_within (Column a) (Literal (int low)) (Literal (int high)) = part_or_within 250000 (λ b. part b low high) (stats_at of a).bounds (omega arith) (λ b. a_part b low high)
  range_within (Column a) _ _ = omega arith
  range_within _ _ _ = omega arith

  membership_within : (e : BoundExpr) (values : ℕ) → membership of e values ≤ million
  membership_within (Column a) values = let l = least_of 500000 (values * one_of (distinct_at of a)) in omega (arith, l)
  membership_within _ values = omega arith

  mutual
    pub factor_within : (e : BoundExpr) → factor of e ≤ million
    factor_within (Column id) = omega arith
    factor_within (Literal null) = omega arith
    factor_within (Literal (bool false)) = omega arith
    factor_within (Literal (bool true)) = omega arith
    factor_within (Literal (int n)) = omega arith
    factor_within (Literal (text t)) = omega arith
    factor_within CurrentUser = omega arith
    factor_within (Negate offset e) = omega arith
    factor_within (Arithmetic op offset e f) = omega arith
    factor_within (Comparison op offset e f) = comparison_within op e f
    factor_within (Between negated offset e low high) = negated_within negated (range of e low high) (range_within e low high)
    factor_within (In negated offset values e) = negated_within negated (membership of e (length values)) (membership_within e (length values))
    factor_within (IsNull false offset e) = omega arith
    factor_within (IsNull true offset e) = omega arith
    factor_within (Not offset e) = omega arith
    factor_within (And offset es) = all_within million es (omega arith)
    factor_within (Or offset es) = any_within 0 es (omega arith)
    factor_within (Cast offset to e) = omega arith
    factor_within (Case offset as_ o) = omega arith
    factor_within (CountStar offset) = omega arith
    factor_within (Call f offset e) = omega arith

    all_within : (so_far : ℕ) (es : BoundExprs) → so_far ≤ million → all_factor of so_far es ≤ million
    all_within so_far no_expr h = h
    all_within so_far (one_expr e es) h = let p = part_within so_far (factor of e) (factor_within e) in all_within (so_far * factor of e / million) es (omega (arith, p, h))

    any_within : (so_far : ℕ) (es : BoundExprs) → so_far ≤ million → any_factor of so_far es ≤ million
    any_within so_far no_expr h = h
    any_within so_far (one_expr e es) h = any_within (so_far + factor of e - so_far * factor of e / million) es (either_within so_far (factor of e) h (factor_within e))

  -- ---- sizes

  times_within : (v rows : ℕ) → times v rows ≤ most_rows
  times_within v rows = go (v * rows)
    where
      go : (n : ℕ) → max 1 (min n most_rows) ≤ most_rows
      go n = omega arith

  rows_within : (v : ℕ) (rows : List ℕ) → v ≤ most_rows → fold times v rows ≤ most_rows
  rows_within v [] h = h
  rows_within v (r ∷ rs) h = rows_within (times v r) rs (times_within v r)

  pub reduced_all : (v : ℕ) (test : Selection → Bool) (es : List BoundExpr) → v ≤ most_rows → fold reduced v (map (λ s. s.factor) (filter test (selections of es))) ≤ most_rows
  reduced_all v test [] h = h
  reduced_all v test (e ∷ es) h = go (test (selection of e)) (λ w. reduced_all w test es)
    where
      go : (b : Bool) → ((w : ℕ) → w ≤ most_rows → fold reduced w (map (λ s. s.factor) (filter test (selections of es))) ≤ most_rows)
          → fold reduced v (map (λ s. s.factor) (if b then selection of e ∷ filter (test) (selections of es) else filter (test) (selections of es))) ≤ most_rows
      go true rest = rest (reduced v (factor of e)) (reduced_within v (factor of e) most_rows (factor_within e) h (omega arith))
      go false rest = rest v h

  pub card_within : (entries : Entries) (es : List BoundExpr) → card of (selections of es) entries ≤ most_rows
  card_within entries es = reduced_all (all_rows of entries) (is_about entries) es (rows_within 1 (map (rows_at of) (filter entries (range_with_len 0 (length of)))) (omega arith))
