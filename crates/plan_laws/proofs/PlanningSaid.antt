-- The conditions that a query is planned with have texts that are read back, where those that it is written with have.
use Rattle.std.proofs.Common.{◌≤◌, List, [], ◌∷◌, map, arith}
use Rattle.std.specs.List.{All}
use Rattle.std.proofs.lemmas.List.Elements.{All-nil, All-cons, All-map, All-weaker}
use Rattle.expr.specs.declared.bound.ColumnId.{ColumnId}
use Rattle.expr.specs.Bound.{BoundExpr}
use Rattle.expr.specs.BoundQuery.{BoundQuery}
use Rattle.expr.specs.Columns.{columns}
use Rattle.expr.specs.Conjuncts.{movable_conjuncts}
use Rattle.predicates.specs.Offsets.{without_offsets}
use Rattle.scope.specs.Entry.{Entry}
use Rattle.expr_texts.specs.Filters.{filter_levels}
use Rattle.row_terms.specs.Written.{left_conditions}
use Rattle.algebra.specs.PlanningList.{planning_list}
use Rattle.plan_laws.specs.Said.{IsSaid}
use Rattle.plan_laws.proofs.SaidPlain.{IsValue, IsColumnSaid, to_plain, written_back, utf8_back, columns_back}
use Rattle.plan_laws.proofs.PlainLists.{IsKept, planning_plain, without_kept}

module _ (entries : List Entry) where
  -- said, and with a fact that is known of each column
  abbrev pub IsSaidOf : (ColumnId → Type 0) → BoundExpr → Type 0
  IsSaidOf C e = IsSaid entries e × All C (columns e)

  abbrev Kept : (ColumnId → Type 0) → BoundExpr → Type 0
  Kept C = IsKept entries (IsColumnSaid entries C) IsValue (tt, tt) (λ b. (tt, tt)) filter_levels

  forth : (C : ColumnId → Type 0) (e : BoundExpr) → IsSaidOf C e → Kept C e
  forth C e s = record { plain = to_plain entries C e s.0.written s.0.utf8 s.1; shallow = s.0.shallow }

  back : (C : ColumnId → Type 0) (e : BoundExpr) → Kept C e → IsSaidOf C e
  back C e k = (record { written = written_back entries C e k.plain; shallow = k.shallow; utf8 = utf8_back entries C e k.plain }, columns_back entries C e k.plain)

  some_levels : 1 ≤ filter_levels
  some_levels = omega arith

  pub planning_said_of : (C : ColumnId → Type 0) (q : BoundQuery) → All (IsSaidOf C) (movable_conjuncts q) → All (IsSaidOf C) (left_conditions q) → All (IsSaidOf C) (planning_list q)
  planning_said_of C q h lefts =
      All-weaker (Kept C) (IsSaidOf C) (back C) (planning_list q)
      (planning_plain entries (IsColumnSaid entries C) IsValue (tt, tt) (λ b. (tt, tt)) filter_levels some_levels q (All-weaker (IsSaidOf C) (Kept C) (forth C) (movable_conjuncts q) h)
      (All-weaker (IsSaidOf C) (Kept C) (forth C) (left_conditions q) lefts))

  nothing_known : (ids : List ColumnId) → All (λ id. Unit {0}) ids
  nothing_known [] = All-nil (λ id. Unit {0})
  nothing_known (id ∷ ids) = All-cons (λ id. Unit {0}) id ids tt (nothing_known ids)

  said_alone : (es : List BoundExpr) → All (IsSaid entries) es → All (IsSaidOf (λ id. Unit {0})) es
  said_alone es h = All-weaker (IsSaid entries) (IsSaidOf (λ id. Unit {0})) (λ e s. (s, nothing_known (columns e))) es h

  pub planning_said : (q : BoundQuery) → All (IsSaid entries) (movable_conjuncts q) → All (IsSaid entries) (left_conditions q) → All (IsSaid entries) (planning_list q)
  planning_said q h lefts =
      All-weaker (IsSaidOf (λ id. Unit {0})) (IsSaid entries) (λ e s. s.0) (planning_list q) (planning_said_of (λ id. Unit {0}) q (said_alone (movable_conjuncts q) h) (said_alone (left_conditions q) lefts))

  -- ---- without offsets

  said_without : (e : BoundExpr) → IsSaid entries e → IsSaid entries (without_offsets e)
  said_without e s =
      (back (λ id. Unit {0}) (without_offsets e)
      (without_kept entries (IsColumnSaid entries (λ id. Unit {0})) IsValue (tt, tt) (λ b. (tt, tt)) filter_levels e (forth (λ id. Unit {0}) e (s, nothing_known (columns e))))).0

  pub all_said_without : (es : List BoundExpr) → All (IsSaid entries) es → All (IsSaid entries) (map without_offsets es)
  all_said_without es h = All-map (IsSaid entries) without_offsets es (All-weaker (IsSaid entries) (λ e. IsSaid entries (without_offsets e)) said_without es h)
