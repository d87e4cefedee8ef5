-- Expressions over one entry.
use Rattle.std.proofs.Common.{◌≡◌, ℕ, zero, suc, Bool, true, ◌==◌, eqb-true, List, [], ◌∷◌, slice_index_or, slice_get, Some, Contains, refl, ap, ◌∙◌, subst, arith}
use Rattle.std.specs.List.{list_all}
use Rattle.value.specs.Datum.{Row, cell, row_at}
use Rattle.value.specs.Names.{Name}
use Rattle.expr.specs.declared.bound.ColumnId.{ColumnId}
use Rattle.expr.specs.Bound.{BoundExpr}
use Rattle.expr.specs.Columns.{columns}
use Rattle.eval.specs.Meaning.{meaning}
use Rattle.eval.proofs.Agreement.{same_meaning}
use Rattle.eval.proofs.Movables.{and_left, and_right}
use Rattle.tuples.specs.declared.slot.Slot.{Slot}
use Rattle.tuples.specs.declared.slot.Slot.TheVariants as slot
use Rattle.tuples.specs.Combinations.{joined_cells}
use Rattle.tuples.specs.Rows.{cells_of}
use Rattle.tuples.specs.Slots.{slot_at}
use Rattle.tuples.specs.World.{GuardedTable, combination_at}
use Rattle.tuples.proofs.Slots.{at_slot, row_of_slot}

-- what all of a list pass, each of them passes
pub all_contained : {X : Type 0} (p : X → Bool) (xs : List X) → list_all p xs ≡ true → (x : X) → Contains xs x → p x ≡ true
all_contained p [] h x (k, below, is) = absurd (omega (arith, below))
all_contained {X} p (other ∷ xs) h x (zero, below, is) = let e : other ≡ x = is in subst (λ (y : X). p y ≡ true) e (and_left (p other) (list_all p xs) h)
all_contained p (other ∷ xs) h x (suc k, below, is) = all_contained p xs (and_right (p other) (list_all p xs) h) x (k, omega (arith, below), is)

module _ (tables : List GuardedTable) (role : Name) (i : ℕ) (t : GuardedTable) (at : slice_get tables i ≡ Some t) where
  module _ (e : BoundExpr) (only : list_all (λ (id : ColumnId). id.entry == i) (columns e) ≡ true) (slots : List Slot) where
    -- an expression over the entry alone has the same outcome on the row in a slot as on a combination with that slot
    in_slot : (s : Slot) → slot_at slots i ≡ s → meaning (joined_cells (combination_at tables slots)) role e ≡ meaning (cells_of (row_of_slot (Some t) s)) role e
    in_slot s has =
        same_meaning (joined_cells (combination_at tables slots)) (cells_of (row_of_slot (Some t) s)) role e
        record {
          columns = λ id inside. own id (eqb-true id.entry i (all_contained (λ (c : ColumnId). c.entry == i) (columns e) only id inside));
          aggregates = λ offset. refl;
        }
      where
        own : (id : ColumnId) → id.entry ≡ i → cell (slice_index_or (combination_at tables slots) id.entry []) id.column ≡ cell (row_of_slot (Some t) s) id.column
        own id e =
            ap (λ (row : Row). cell row id.column)
            (ap (λ (k : ℕ). slice_index_or (combination_at tables slots) k []) e
            ∙ at_slot tables slots i
            ∙ ap (λ o. row_of_slot o (slot_at slots i)) at
            ∙ ap (row_of_slot (Some t)) has)

    pub outcome_alike : (n : ℕ) → slot_at slots i ≡ slot.Row n → meaning (joined_cells (combination_at tables slots)) role e ≡ meaning (cells_of (row_at t.rows n)) role e
    outcome_alike n has = in_slot (slot.Row n) has

    pub null_alike : slot_at slots i ≡ slot.NullRow → meaning (joined_cells (combination_at tables slots)) role e ≡ meaning (cells_of []) role e
    null_alike has = in_slot slot.NullRow has
