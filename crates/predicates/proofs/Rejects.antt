-- Conditions that are true on no null row.
use Rattle.std.proofs.Common.{◌≡◌, ◌⊎◌, inl, inr, ℕ, Bool, true, false, ◌||◌, List, [], ◌∷◌, ◌++◌, Option, Some, None, option_to_list, Ok, Err, refl, ap, ◌∙◌}
use Rattle.std.specs.List.{list_any}
use Rattle.value.specs.Datum.{Datum, null, int, text, bool}
use Rattle.value.specs.Orders.{is_true}
use Rattle.value.specs.Truths.{greatest}
use Rattle.value.specs.declared.order.Truth.{Truth}
use Rattle.value.specs.declared.order.Truth.TheVariants.{False, Unknown, True}
use Rattle.value.specs.declared.operators.Comparison as value
use Rattle.value.proofs.Conditions.{truth_back}
use Rattle.expr.specs.declared.bound.ColumnId.{ColumnId}
use Rattle.expr.specs.Bound.{BoundExpr, Column, Comparison, In, IsNull}
use Rattle.eval.specs.Operators.{in_of}
use Rattle.eval.specs.Meaning.{Cells, Outcome, meaning, comparison, membership, null_check, is_true_outcome, holds}
use Rattle.predicates.specs.NullRows.{column_alone, rejects_null_rows, NullRowsAreRejected}

or_false : (b : Bool) → (b || false) ≡ true → b ≡ true
or_false true h = refl
or_false false h = h

-- one of two lists has it
in_either : (p : ColumnId → Bool) (o : Option ColumnId) (ids : List ColumnId) → list_any p (option_to_list o ++ ids) ≡ true → (list_any p (option_to_list o) ≡ true) ⊎ (list_any p ids ≡ true)
in_either p None ids h = inr h
in_either p (Some id) ids h = go (p id) h
  where
    go : (b : Bool) → (b || list_any p ids) ≡ true → ((b || false) ≡ true) ⊎ (list_any p ids ≡ true)
    go true k = inl refl
    go false k = inr k

-- ---- operators of a null

null_left : (operator : value.Comparison) (n : Outcome) → is_true_outcome (comparison operator (Ok null) n) ≡ false
null_left operator (Ok y) = refl
null_left operator (Err f) = refl

null_right : (operator : value.Comparison) (m : Outcome) → is_true_outcome (comparison operator m (Ok null)) ≡ false
null_right operator (Err f) = refl
null_right operator (Ok null) = refl
null_right operator (Ok (int n)) = refl
null_right operator (Ok (text t)) = refl
null_right operator (Ok (bool b)) = refl

null_in : (values : List Datum) → is_true (in_of null values) ≡ false
null_in [] = refl
null_in (v ∷ vs) = go (in_of null vs) (null_in vs)
  where
    go : (t : Truth) → is_true t ≡ false → is_true (greatest Unknown t) ≡ false
    go False h = refl
    go Unknown h = refl
    go True h = h

module _ (inside : ℕ → Bool) (cells : Cells) (role : List ℕ) (nulls : (id : ColumnId) → inside id.entry ≡ true → cells.column id ≡ null) where
  abbrev is_inside : ColumnId → Bool
  is_inside id = inside id.entry

  null_column : (e : BoundExpr) → list_any is_inside (option_to_list (column_alone e)) ≡ true → meaning cells role e ≡ Ok null
  null_column (Column id) h = ap Ok (nulls id (or_false (inside id.entry) h))
  null_column _ h = absurd (cc)

  not_true : (e : BoundExpr) → rejects_null_rows inside e ≡ true → holds cells role e ≡ false
  not_true (Comparison operator offset e f) h = sides (in_either is_inside (column_alone e) (option_to_list (column_alone f)) h)
    where
      sides : (list_any is_inside (option_to_list (column_alone e)) ≡ true) ⊎ (list_any is_inside (option_to_list (column_alone f)) ≡ true) → is_true_outcome (comparison operator (meaning cells role e) (meaning cells role f)) ≡ false
      sides (inl k) = ap (λ m. is_true_outcome (comparison operator m (meaning cells role f))) (null_column e k) ∙ null_left operator (meaning cells role f)
      sides (inr k) = ap (λ n. is_true_outcome (comparison operator (meaning cells role e) n)) (null_column f k) ∙ null_right operator (meaning cells role e)
  not_true (IsNull true offset e) h = ap (λ m. is_true_outcome (null_check true m)) (null_column e h)
  not_true (In false offset values e) h =
      ap (λ m. is_true_outcome (membership false m values)) (null_column e h)
      ∙ ap is_true (truth_back (in_of null values))
      ∙ null_in values
  not_true _ h = absurd (cc)

pub rejected : NullRowsAreRejected
rejected inside e cells role h nulls = not_true inside cells role nulls e h
