-- The ONs of left joined entries that name no later entry each, without their offsets.
use Rattle.std.proofs.Common.{◌≡◌, refl, ap, ap₂, sym, subst, ◌∙◌, ◌≤◌, ℕ, zero, suc, ◌+◌, true, nat_le, ◌++◌, List, [], ◌∷◌, map, Some, arith}
use Rattle.std.specs.List.{All, list_all, slice_get}
use Rattle.std.proofs.lemmas.Bool.{le-leb}
use Rattle.std.proofs.lemmas.List.Elements.{All-head, All-tail}
use Rattle.expr.specs.declared.bound.ColumnId.{ColumnId}
use Rattle.expr.specs.Bound.{BoundExpr, Column, Literal, CurrentUser, Negate, Arithmetic, Comparison, Between, In, IsNull, Not, And, Or, Cast, Case, CountStar, Call, BoundExprs, no_expr, one_expr, BoundArms, no_arm, one_arm, BoundOtherwise, Nothing, Value}
use Rattle.expr.specs.Columns.{columns, all_columns, arms_columns, otherwise_columns}
use Rattle.predicates.specs.Offsets.{without_offset, without_offsets}
use Rattle.predicates.specs.Rebuilt.{all_rebuilt, arms_rebuilt, otherwise_rebuilt}
use Rattle.predicates.proofs.Keeping.{both}
use Rattle.algebra.specs.PlanningList.{reach}
use Rattle.algebra.specs.Runs.{reads_up_to}

-- the columns of an expression stay
mutual
  columns_stay : (e : BoundExpr) → columns (without_offsets e) ≡ columns e
  columns_stay (Column id) = refl
  columns_stay (Literal d) = refl
  columns_stay CurrentUser = refl
  columns_stay (Negate offset e) = columns_stay e
  columns_stay (Arithmetic op offset e f) = ap₂ ◌++◌ (columns_stay e) (columns_stay f)
  columns_stay (Comparison op offset e f) = ap₂ ◌++◌ (columns_stay e) (columns_stay f)
  columns_stay (Between negated offset e low high) = ap₂ ◌++◌ (columns_stay e) (ap₂ ◌++◌ (columns_stay low) (columns_stay high))
  columns_stay (In negated offset values e) = columns_stay e
  columns_stay (IsNull negated offset e) = columns_stay e
  columns_stay (Not offset e) = columns_stay e
  columns_stay (And offset es) = all_stay es
  columns_stay (Or offset es) = all_stay es
  columns_stay (Cast offset to e) = columns_stay e
  columns_stay (Case offset as_ o) = ap₂ ◌++◌ (arms_stay as_) (else_stays o)
  columns_stay (CountStar offset) = refl
  columns_stay (Call f offset e) = columns_stay e

  all_stay : (es : BoundExprs) → all_columns (all_rebuilt without_offset es) ≡ all_columns es
  all_stay no_expr = refl
  all_stay (one_expr e es) = ap₂ ◌++◌ (columns_stay e) (all_stay es)

  arms_stay : (as_ : BoundArms) → arms_columns (arms_rebuilt without_offset as_) ≡ arms_columns as_
  arms_stay no_arm = refl
  arms_stay (one_arm when result as_) = ap₂ ◌++◌ (columns_stay when) (ap₂ ◌++◌ (columns_stay result) (arms_stay as_))

  else_stays : (o : BoundOtherwise) → otherwise_columns (otherwise_rebuilt without_offset o) ≡ otherwise_columns o
  else_stays Nothing = refl
  else_stays (Value e) = columns_stay e

abbrev pub IsUpTo : ℕ → BoundExpr → Type 0
IsUpTo n on = All (λ id. id.entry ≤ n) (columns on)

up_to_all : (n : ℕ) (ids : List ColumnId) → All (λ id. id.entry ≤ n) ids → list_all (λ id. nat_le id.entry n) ids ≡ true
up_to_all n [] h = refl
up_to_all n (id ∷ ids) h = both (nat_le id.entry n) (list_all (λ id. nat_le id.entry n) ids) (le-leb id.entry n (All-head (λ id. id.entry ≤ n) id ids h)) (up_to_all n ids (All-tail (λ id. id.entry ≤ n) id ids h))

pub in_reach : (ons : List BoundExpr) (n : ℕ) → ((k : ℕ) (on : BoundExpr) → slice_get ons k ≡ Some on → IsUpTo (n + k) on) → reach n (map without_offsets ons) ≡ true
in_reach [] n h = refl
in_reach (on ∷ ons) n h =
    let here : n + 0 ≡ n = omega arith in
    both (reads_up_to n (without_offsets on)) (reach (suc n) (map without_offsets ons))
    (ap (list_all (λ id. nat_le id.entry n)) (columns_stay on) ∙ up_to_all n (columns on) (subst (λ m. IsUpTo m on) here (h 0 on refl)))
    (in_reach ons (suc n) (λ k later at. let next : n + suc k ≡ suc n + k = omega arith in subst (λ m. IsUpTo m later) next (h (suc k) later at)))
