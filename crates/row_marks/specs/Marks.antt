-- Marks: outcomes that are kept by the numbers of rows.
use Rattle.std.specs.Prelude.{◌≡◌, ℕ, zero, suc, true, false, List, [], ◌∷◌, map, slice_get, get_or, Option, Some, None, IsSome, option_map, Ok, ⊤}
use Rattle.std.specs.List.{All}
use Rattle.value.specs.Datum.{bool}
use Rattle.expr.specs.Bound.{BoundExpr}
use Rattle.expr.specs.Conjuncts.{fragile_conjuncts}
use Rattle.expr.specs.View.{bound_expr_of}
use Rattle.eval.specs.Marks.{outcome_of}
use Rattle.eval.specs.Meaning.{Cells, Outcome, meaning}
use Rattle.value.specs.Names.{Name}
use Rattle.tuples.specs.Slots.{slot_at}
use Rattle.tuples.specs.World.{World}
use Rattle.tuples.specs.declared.slot.Slot.{Slot}
use Rattle.tuples.specs.declared.slot.Slot.TheVariants as slot
use Rattle.row_marks.specs.Marked.{computed_entry, mark_on, mark_on_null, marked_entry, seen_mark}
use Rattle.row_marks.specs.Calls.{query_aggregates}
use Rattle.row_marks.specs.declared.mark_column.MarkColumn.{MarkColumn}
use Rattle.row_marks.specs.declared.marked.Marked.{Marked}
use Rattle.row_marks.specs.declared.marked.MarkedArgument.{MarkedArgument}
use Rattle.row_marks.specs.declared.marks.Marks.{Marks}

-- ---- a column of marks

-- 0 is none, else an index from 1
abbrev pub numbered : {X : Type 0} → List X → ℕ → Option X
numbered xs zero = None
numbered xs (suc k) = slice_get xs k

-- the mark of the row of a number, if it is made
abbrev pub mark_at : {A : Type 0} → MarkColumn A → (number : ℕ) → Option Outcome
mark_at c number = option_map (λ m. outcome_of m) (numbered c.made.items (get_or c.places.items number 0))

-- each that is made is the outcome on its row
abbrev pub AreMarks : {A : Type 0} → (outcome : ℕ → Outcome) → MarkColumn A → Type 0
AreMarks outcome c = (number : ℕ) (m : Outcome) → mark_at c number ≡ Some m → m ≡ outcome number

-- those that are made stay made
abbrev pub StayMade : {A : Type 0} → (old new : MarkColumn A) → Type 0
StayMade old new = (number : ℕ) (m : Outcome) → mark_at old number ≡ Some m → mark_at new number ≡ Some m

-- ---- an expression with its marks

-- what does not change of it: the expression and its entry
abbrev pub seen_of : {A : Type 0} → Marked A → BoundExpr × Option ℕ
seen_of m = (bound_expr_of m.expression.now, m.entry)

abbrev pub exprs_of : {A : Type 0} → List (Marked A) → List BoundExpr
exprs_of ms = map (λ m. (seen_of m).0) ms

-- of an argument: count(*) has none
abbrev pub argument_seen : {A : Type 0} → MarkedArgument A → Option (BoundExpr × Option ℕ)
argument_seen a = option_map (λ m. seen_of m) a.marked

abbrev pub arguments_of : {A : Type 0} → List (MarkedArgument A) → List (Option BoundExpr)
arguments_of as_ = map (λ a. option_map (λ s. s.0) (argument_seen a)) as_

-- its mark on the null row of its entry, if it is made
abbrev pub null_mark : {A : Type 0} → Marked A → Option Outcome
null_mark m = option_map (λ mark. outcome_of mark) m.on_null

-- its marks are outcomes on the rows of its entry, which is the one that its columns are all of, and on the null row
abbrev pub IsMarked : {A : Type 0} → World → Marked A → Type 0
IsMarked w m =
    (entry : ℕ) → m.entry ≡ Some entry
    → (marked_entry w (bound_expr_of m.expression.now) ≡ Some entry) × AreMarks (mark_on w entry (bound_expr_of m.expression.now)) m.marks
    × ((o : Outcome) → null_mark m ≡ Some o → o ≡ mark_on_null w (bound_expr_of m.expression.now))

abbrev pub AreMarked : {A : Type 0} → World → List (Marked A) → Type 0
AreMarked w [] = ⊤
AreMarked w (m ∷ ms) = IsMarked w m × AreMarked w ms

abbrev pub IsMarkedIf : {A : Type 0} → World → Option (Marked A) → Type 0
IsMarkedIf w None = ⊤
IsMarkedIf w (Some m) = IsMarked w m

abbrev pub AreMarkedArguments : {A : Type 0} → World → List (MarkedArgument A) → Type 0
AreMarkedArguments w [] = ⊤
AreMarkedArguments w (a ∷ as_) = IsMarkedIf w a.marked × AreMarkedArguments w as_

-- its marks are made on the rows of its entry that the role sees, and on no other; and that on the null row
abbrev pub IsMade : {A : Type 0} → World → Marked A → Type 0
IsMade w m =
    (entry : ℕ) → m.entry ≡ Some entry
    → ((number : ℕ) → mark_at m.marks number ≡ seen_mark w entry (bound_expr_of m.expression.now) number) × (null_mark m ≡ Some (mark_on_null w (bound_expr_of m.expression.now)))

abbrev pub IsMadeIf : {A : Type 0} → World → Option (Marked A) → Type 0
IsMadeIf w None = ⊤
IsMadeIf w (Some m) = IsMade w m

abbrev pub AreMade : {A : Type 0} → World → List (Marked A) → Type 0
AreMade w ms = All (IsMade w) ms

abbrev pub AreMadeArguments : {A : Type 0} → World → List (MarkedArgument A) → Type 0
AreMadeArguments w as_ = All (λ a. IsMadeIf w a.marked) as_

-- ---- its outcome on a combination

-- the mark of the row, or of the null row, in the slot of its entry, if it is made
abbrev pub mark_in : {A : Type 0} → MarkColumn A → (on_null : Option Outcome) → Slot → Option Outcome
mark_in c on_null slot.Absent = None
mark_in c on_null slot.NullRow = on_null
mark_in c on_null (slot.Row number) = mark_at c number

abbrev pub mark_by : {A : Type 0} → MarkColumn A → (on_null : Option Outcome) → Option ℕ → List Slot → Option Outcome
mark_by c on_null None slots = None
mark_by c on_null (Some entry) slots = mark_in c on_null (slot_at slots entry)

abbrev pub mark_of : {A : Type 0} → Marked A → List Slot → Option Outcome
mark_of m slots = mark_by m.marks (null_mark m) m.entry slots

abbrev pub mark_or : Option Outcome → Outcome → Outcome
mark_or None outcome = outcome
mark_or (Some outcome) other = outcome

-- its mark, else what it is on the cells
abbrev pub outcome_in : {A : Type 0} → Cells → Name → List Slot → Marked A → Outcome
outcome_in cells role slots m = mark_or (mark_of m slots) (meaning cells role (bound_expr_of m.expression.now))

-- that of an argument: count(*) counts a value that is never null
abbrev pub outcome_if : {A : Type 0} → Cells → Name → List Slot → Option (Marked A) → Outcome
outcome_if cells role slots None = Ok (bool true)
outcome_if cells role slots (Some m) = outcome_in cells role slots m

abbrev pub argument_in : {A : Type 0} → Cells → Name → List Slot → MarkedArgument A → Outcome
argument_in cells role slots a = outcome_if cells role slots a.marked

-- it is there already: count(*), or one whose mark on the combination is made
abbrev pub IsThereIf : {A : Type 0} → List Slot → Option (Marked A) → Type 0
IsThereIf slots None = ⊤
IsThereIf slots (Some m) = IsSome (mark_of m slots)

abbrev pub IsThere : {A : Type 0} → List Slot → MarkedArgument A → Type 0
IsThere slots a = IsThereIf slots a.marked

-- ---- all of a query

-- conditions are the fragile conjuncts; without groups there are the items; and the arguments of the aggregates; each with its entry
pub record AreMarksOf {A : Type 0} (w : World) (m : Marks A) : Type 0 where
  pub conditions : exprs_of m.conditions.items ≡ fragile_conjuncts w.query
  pub entries : map (λ c. seen_of c) m.conditions.items ≡ map (λ e. (e, marked_entry w e)) (exprs_of m.conditions.items)
  pub items : w.query.is_grouped ≡ false → map (λ m. seen_of m) m.items.items ≡ map (λ i. (i.value, computed_entry w i.value)) w.query.items
  pub arguments : map (λ a. argument_seen a) m.arguments.items ≡ map (λ c. option_map (λ e. (e, computed_entry w e)) c.argument) (query_aggregates w.query)
  pub marked_conditions : AreMarked w m.conditions.items
  pub marked_items : AreMarked w m.items.items
  pub marked_arguments : AreMarkedArguments w m.arguments.items

-- its marks are made on the rows that the role sees, and on no other
pub record AllMade {A : Type 0} (w : World) (m : Marks A) : Type 0 where
  pub conditions : AreMade w m.conditions.items
  pub items : AreMade w m.items.items
  pub arguments : AreMadeArguments w m.arguments.items
