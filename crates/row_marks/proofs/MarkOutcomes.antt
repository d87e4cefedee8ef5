-- The mark on the row of a combination is the outcome on the combination.
use Rattle.std.proofs.Common.{◌≡◌, ◌<◌, ◌&&◌, ℕ, zero, suc, ◌==◌, Bool, true, false, nat_lt, List, [], ◌∷◌, length, map, option_map, slice_get, Option, Some, None, refl, sym, ap, ap₂, ◌∙◌, subst, arith}
use Rattle.std.specs.Prelude.{if◌then◌else◌}
use Rattle.std.specs.List.{list_all}
use Rattle.std.proofs.lemmas.Bool.Decides.{nat_tests}
use Rattle.eval.proofs.Movables.{and_right}
use Rattle.memory.proofs.Cases.{some_is}
use Rattle.value.specs.Datum.{row_at}
use Rattle.expr.specs.declared.bound.ColumnId.{ColumnId}
use Rattle.expr.specs.Aggregates.{AggregateCall}
use Rattle.expr.specs.Bound.{BoundExpr}
use Rattle.expr.specs.Columns.{columns}
use Rattle.expr.specs.View.{bound_expr_of}
use Rattle.eval.specs.Meaning.{Cells, Outcome, meaning}
use Rattle.groups.specs.Members.{all_of, argument, key_on, member_on, with_key}
use Rattle.groups.proofs.ArgumentLaws.{member_is}
use Rattle.groups.proofs.SameGroups.{map-map}
use Rattle.tuples.specs.Combinations.{joined_cells}
use Rattle.tuples.specs.Rows.{cells_of}
use Rattle.tuples.specs.Slots.{slot_at}
use Rattle.tuples.specs.World.{GuardedTable, World, combination_at}
use Rattle.tuples.specs.declared.slot.Slot.{Slot}
use Rattle.tuples.specs.declared.slot.Slot.TheVariants as slot
use Rattle.tuples.proofs.OneEntry.{null_alike, outcome_alike}
use Rattle.row_marks.specs.Marked.{among, entry_of, mark_on, mark_on_null, marked_entry, one_entry, rows_in}
use Rattle.row_marks.specs.Marks.{AreMarked, AreMarkedArguments, AreMarks, IsMarked, IsMarkedIf, argument_in, arguments_of, exprs_of, mark_at, mark_by, mark_in, mark_or, null_mark, outcome_if, outcome_in, seen_of}
use Rattle.row_marks.specs.declared.mark_column.MarkColumn.{MarkColumn}
use Rattle.row_marks.specs.declared.marked.Marked.{Marked}
use Rattle.row_marks.specs.declared.marked.MarkedArgument.{MarkedArgument}

pub itself : (k : ℕ) → (k == k) ≡ true
itself k = grind (arith, nat_tests)

-- ---- the entry of a mark

abbrev IsOne : List ColumnId → Option ℕ → Type 0
IsOne ids None = Unit {0}
IsOne ids (Some i) = list_all (λ (id : ColumnId). id.entry == i) ids ≡ true

one_is : (ids : List ColumnId) → IsOne ids (one_entry ids)
one_is [] = tt
one_is (id ∷ ids) = go (list_all (λ (other : ColumnId). other.entry == id.entry) ids) refl
  where
    go : (b : Bool) → list_all (λ (other : ColumnId). other.entry == id.entry) ids ≡ b → IsOne (id ∷ ids) (if b then Some id.entry else None)
    go true h = rw (itself id.entry, h) refl
    go false h = tt

-- its columns are all of it, and it has a table
pub record IsOwn (count : ℕ) (e : BoundExpr) (i : ℕ) : Type 0 where
  pub all : list_all (λ (id : ColumnId). id.entry == i) (columns e) ≡ true
  pub below : i < count

pub below_is : (i count : ℕ) → nat_lt i count ≡ true → i < count
below_is i count h = grind (arith, nat_tests)

own_among : (count : ℕ) (e : BoundExpr) (o : Option ℕ) → IsOne (columns e) o → (i : ℕ) → among count o ≡ Some i → IsOwn count e i
own_among count e None one i h = absurd (cc)
own_among count e (Some own) one i h = go (nat_lt 1 count && nat_lt own count) refl h
  where
    go : (b : Bool) → (nat_lt 1 count && nat_lt own count) ≡ b → (if b then Some own else None) ≡ Some i → IsOwn count e i
    go true lt is =
        let same : own ≡ i = some_is own i is in
        record { all = subst (λ k. list_all (λ (id : ColumnId). id.entry == k) (columns e) ≡ true) same one; below = subst (λ k. k < count) same (below_is own count (and_right (nat_lt 1 count) (nat_lt own count) lt)) }
    go false lt is = absurd (cc)

pub own_entry : (w : World) (e : BoundExpr) (i : ℕ) → marked_entry w e ≡ Some i → IsOwn (length w.tables) e i
own_entry w e i h = own_among (length w.tables) e (entry_of e) (one_is (columns e)) i h

-- an entry below the number of tables has one
table_there : (tables : List GuardedTable) (i : ℕ) → i < length tables → (t : GuardedTable) × (slice_get tables i ≡ Some t)
table_there [] i h = absurd (omega (arith, h))
table_there (t ∷ tables) zero h = (t, refl)
table_there (t ∷ tables) (suc i) h = table_there tables i (omega (arith, h))

-- ---- its mark

pub mark_is : (w : World) (e : BoundExpr) (i : ℕ) → marked_entry w e ≡ Some i → (slots : List Slot) (n : ℕ) → slot_at slots i ≡ slot.Row n → meaning (joined_cells (combination_at w.tables slots)) w.role e ≡ mark_on w i e n
mark_is w e i own slots n has =
    let is = own_entry w e i own in
    let there = table_there w.tables i is.below in
    outcome_alike w.tables w.role i there.0 there.1 e is.all slots n has ∙ ap (λ o. meaning (cells_of (row_at (rows_in o) n)) w.role e) (sym there.1)

pub null_mark_is : (w : World) (e : BoundExpr) (i : ℕ) → marked_entry w e ≡ Some i → (slots : List Slot) → slot_at slots i ≡ slot.NullRow → meaning (joined_cells (combination_at w.tables slots)) w.role e ≡ mark_on_null w e
null_mark_is w e i own slots has =
    let is = own_entry w e i own in
    let there = table_there w.tables i is.below in
    null_alike w.tables w.role i there.0 there.1 e is.all slots has

module _ {A : Type 0} (w : World) (e : BoundExpr) (i : ℕ) (own : marked_entry w e ≡ Some i) (c : MarkColumn A) (are : AreMarks (mark_on w i e) c) (on_null : Option Outcome) (null_is : (o : Outcome) → on_null ≡ Some o → o ≡ mark_on_null w e)
    (slots : List Slot) where
  in_slot : (s : Slot) → slot_at slots i ≡ s → mark_or (mark_in c on_null s) (meaning (joined_cells (combination_at w.tables slots)) w.role e) ≡ meaning (joined_cells (combination_at w.tables slots)) w.role e
  in_slot slot.Absent has = refl
  in_slot slot.NullRow has = made on_null refl
    where
      made : (o : Option Outcome) → on_null ≡ o → mark_or o (meaning (joined_cells (combination_at w.tables slots)) w.role e) ≡ meaning (joined_cells (combination_at w.tables slots)) w.role e
      made None is = refl
      made (Some m) is = null_is m is ∙ sym (null_mark_is w e i own slots has)
  in_slot (slot.Row n) has = made (mark_at c n) refl
    where
      made : (o : Option Outcome) → mark_at c n ≡ o → mark_or o (meaning (joined_cells (combination_at w.tables slots)) w.role e) ≡ meaning (joined_cells (combination_at w.tables slots)) w.role e
      made None is = refl
      made (Some m) is = are n m is ∙ sym (mark_is w e i own slots n has)

-- the outcome by a mark is that on the combination
pub outcome_is : {A : Type 0} (w : World) (m : Marked A) (slots : List Slot) → IsMarked w m → outcome_in (joined_cells (combination_at w.tables slots)) w.role slots m ≡ meaning (joined_cells (combination_at w.tables slots)) w.role (bound_expr_of m.expression.now)
outcome_is {A} w m slots are = go m.entry refl
  where
    e : BoundExpr
    e = bound_expr_of m.expression.now

    go : (o : Option ℕ) → m.entry ≡ o → mark_or (mark_by m.marks (null_mark m) o slots) (meaning (joined_cells (combination_at w.tables slots)) w.role e) ≡ meaning (joined_cells (combination_at w.tables slots)) w.role e
    go None is = refl
    go (Some i) is = in_slot w e i (are i is).0 m.marks (are i is).1 (null_mark m) (are i is).2 slots (slot_at slots i) refl

-- ---- several of them

module _ (w : World) (slots : List Slot) where
  abbrev cells : Cells
  cells = joined_cells (combination_at w.tables slots)

  pub outcomes_are : {A : Type 0} (ms : List (Marked A)) → AreMarked w ms → map (λ m. outcome_in cells w.role slots m) ms ≡ map (meaning cells w.role) (exprs_of ms)
  outcomes_are [] are = refl
  outcomes_are (m ∷ ms) are = ap₂ ◌∷◌ (outcome_is w m slots are.0) (outcomes_are ms are.1)

  argument_is : {A : Type 0} (o : Option (Marked A)) → IsMarkedIf w o → outcome_if cells w.role slots o ≡ argument cells w.role (option_map (λ s. s.0) (option_map (λ m. seen_of m) o))
  argument_is None is = refl
  argument_is (Some m) is = outcome_is w m slots is

  each_argument : {A : Type 0} (as_ : List (MarkedArgument A)) → AreMarkedArguments w as_ → map (λ a. argument_in cells w.role slots a) as_ ≡ map (argument cells w.role) (arguments_of as_)
  each_argument [] are = refl
  each_argument (a ∷ as_) are = ap₂ ◌∷◌ (argument_is a.marked are.0) (each_argument as_ are.1)

  -- the member of the arguments by their marks is that on the combination
  pub member_by_marks : {A : Type 0} (as_ : List (MarkedArgument A)) → AreMarkedArguments w as_ → (columns : List ColumnId) (calls : List AggregateCall) → arguments_of as_ ≡ map (λ c. c.argument) calls
      → with_key (key_on cells columns) (all_of (map (λ a. argument_in cells w.role slots a) as_)) ≡ member_on cells w.role columns calls
  member_by_marks as_ are columns calls same =
      ap (λ os. with_key (key_on cells columns) (all_of os)) (each_argument as_ are ∙ ap (map (argument cells w.role)) same ∙ map-map (argument cells w.role) (λ c. c.argument) calls)
      ∙ member_is cells w.role columns calls
