-- Rows on which the first fragile conjunct is false or null make no difference to the answer.
use Rattle.std.proofs.Common.{◌≡◌, ℕ, zero, suc, ◌+◌, eqb-true, Bool, true, false, ◌&&◌, nat_lt, cond, List, [], ◌∷◌, map, filter, filter_map, length, not, Option, Some, None, Ok, Err, refl, sym, ap, ap₂, ◌∙◌, subst, arith}
use Rattle.std.specs.List.{cons_option}
use Rattle.std.proofs.lemmas.Bool.{not-false, not-true}
use Rattle.bags.specs.Least.{least}
use Rattle.value.specs.Conditions.{truth_at}
use Rattle.value.specs.Orders.{is_true}
use Rattle.expr.specs.Bound.{BoundExpr}
use Rattle.expr.specs.Conjuncts.{fragile_conjuncts}
use Rattle.eval.specs.Meaning.{Outcome, ◌>>=◌}
use Rattle.eval.proofs.Movables.{and_left, and_right}
use Rattle.groups.specs.Stages.{Fate, fault_cmp, fault_in, given_in, gives_if, stage, unless_fault}
use Rattle.groups.proofs.SameGroups.{map-map}
use Rattle.tuples.specs.Combinations.{Combination, joined_cells}
use Rattle.tuples.specs.Sinks.{wants_all, wants_from}
use Rattle.tuples.specs.Slots.{slot_at}
use Rattle.tuples.specs.World.{World, combination_at}
use Rattle.tuples.specs.declared.slot.Slot.{Slot}
use Rattle.tuples.specs.declared.slot.Slot.TheVariants as slot
use Rattle.row_marks.specs.Marked.{drops, drops_first, entry_rows, is_dropping, is_entry, is_left, keeps_row, mark_on, marked_entry}
use Rattle.row_marks.proofs.MarkOutcomes.{mark_is}
use Rattle.report.specs.Answer.{answer, rows_of_kept}
use Rattle.report.specs.QueryStages.{keeps, truth_in, unless_dropped, where_fate, where_stage}

-- ---- what a stage gives nothing for may be left out before it

module _ {X Y : Type 0} (fate : X → Fate Y) (kept : X → Bool) (h : (x : X) → kept x ≡ false → fate x ≡ Ok None) where
  same_parts : {Z : Type 0} (part : Fate Y → Option Z) → part (Ok None) ≡ None → (xs : List X) → filter_map part (map fate (filter kept xs)) ≡ filter_map part (map fate xs)
  same_parts part nothing [] = refl
  same_parts {Z} part nothing (x ∷ xs) = go (kept x) refl (same_parts part nothing xs)
    where
      go : (b : Bool) → kept x ≡ b → filter_map part (map fate (filter kept xs)) ≡ filter_map part (map fate xs)
          → filter_map part (map fate (cond b (x ∷ filter kept xs) (filter kept xs))) ≡ filter_map part (fate x ∷ map fate xs)
      go true e k = ap (cons_option (part (fate x))) k
      go false e k = k ∙ sym (ap (λ o. cons_option o (filter_map part (map fate xs))) (ap part (h x e) ∙ nothing))

  same_stage : (xs : List X) → stage (map fate (filter kept xs)) ≡ stage (map fate xs)
  same_stage xs = ap₂ (λ faults given. unless_fault (least fault_cmp faults) given) (same_parts fault_in refl xs) (same_parts given_in refl xs)

-- ---- a combination that is not wanted has a row that is not

-- of an entry from one on
record Unwanted (wants : (entry number : ℕ) → Bool) (from : ℕ) (slots : List Slot) : Type 0 where
  index : ℕ
  number : ℕ
  has : slot_at slots index ≡ slot.Row number
  unwanted : wants (index + from) number ≡ false

module _ (wants : (entry number : ℕ) → Bool) where
  later : (from : ℕ) (s : Slot) (slots : List Slot) → Unwanted wants (suc from) slots → Unwanted wants from (s ∷ slots)
  later from s slots u =
      let same : u.index + suc from ≡ suc u.index + from = omega arith in
      record { index = suc u.index; number = u.number; has = u.has; unwanted = subst (λ k. wants k u.number ≡ false) same u.unwanted }

  unwanted_from : (from : ℕ) (slots : List Slot) → wants_from wants from slots ≡ false → Unwanted wants from slots
  unwanted_from from [] h = absurd (cc)
  unwanted_from from (slot.Absent ∷ slots) h = later from slot.Absent slots (unwanted_from (suc from) slots h)
  unwanted_from from (slot.NullRow ∷ slots) h = later from slot.NullRow slots (unwanted_from (suc from) slots h)
  unwanted_from from (slot.Row n ∷ slots) h = go (wants from n) refl h (unwanted_from (suc from) slots)
    where
      go : (b : Bool) → wants from n ≡ b → b && wants_from wants (suc from) slots ≡ false → (wants_from wants (suc from) slots ≡ false → Unwanted wants (suc from) slots)
          → Unwanted wants from (slot.Row n ∷ slots)
      go true e rest more = later from (slot.Row n) slots (more rest)
      go false e rest more =
          let same : from ≡ zero + from = omega arith in
          record { index = zero; number = n; has = refl; unwanted = subst (λ k. wants k n ≡ false) same e }

-- ---- a row that is dropped

entry_is : (o : Option ℕ) (entry : ℕ) → is_entry o entry ≡ true → o ≡ Some entry
entry_is None entry h = absurd (cc)
entry_is (Some own) entry h = ap (λ k. Some k) (eqb-true own entry h)

not_kept : (m : Outcome) → is_dropping m ≡ true → truth_in m ≡ Ok false
not_kept (Ok d) h = ap (λ b. Ok b) (not-true (is_true (truth_at d)) h)
not_kept (Err fault) h = absurd (cc)

module _ (w : World) (slots : List Slot) (i n : ℕ) (has : slot_at slots i ≡ slot.Row n) where
  abbrev these : Combination
  these = combination_at w.tables slots

  none_given : (es : List BoundExpr) → drops_first w es i n ≡ true → gives_if these (keeps (joined_cells these) w.role es) ≡ Ok None
  none_given [] h = absurd (cc)
  none_given (e ∷ es) h =
      let own = and_left (is_entry (marked_entry w e) i && nat_lt n (length (entry_rows w i))) (is_dropping (mark_on w i e n)) h in
      let dropping = and_right (is_entry (marked_entry w e) i && nat_lt n (length (entry_rows w i))) (is_dropping (mark_on w i e n)) h in
      let marked = entry_is (marked_entry w e) i (and_left (is_entry (marked_entry w e) i) (nat_lt n (length (entry_rows w i))) own) in
      ap (λ r. gives_if these (unless_dropped r (keeps (joined_cells these) w.role es))) (ap truth_in (mark_is w e i marked slots n has) ∙ not_kept (mark_on w i e n) dropping)

-- a combination with a row that is dropped is not given
nothing_given : (w : World) (slots : List Slot) → wants_all (keeps_row w) slots ≡ false → where_fate w.role w.query (combination_at w.tables slots) ≡ Ok None
nothing_given w slots h =
    let u = unwanted_from (keeps_row w) 0 slots h in
    let same : u.index + 0 ≡ u.index = omega arith in
    let dropped = not-false (drops w u.index u.number) (subst (λ k. keeps_row w k u.number ≡ false) same u.unwanted) in
    none_given w slots u.index u.number u.has (fragile_conjuncts w.query) (and_right (not (is_left w u.index)) (drops_first w (fragile_conjuncts w.query) u.index u.number) dropped)

-- ---- the answer

where_same : (w : World) (all : List (List Slot)) → where_stage w.role w.query (map (combination_at w.tables) (filter (wants_all (keeps_row w)) all)) ≡ where_stage w.role w.query (map (combination_at w.tables) all)
where_same w all =
    ap stage (map-map (where_fate w.role w.query) (combination_at w.tables) (filter (wants_all (keeps_row w)) all))
    ∙ same_stage (λ slots. where_fate w.role w.query (combination_at w.tables slots)) (wants_all (keeps_row w)) (nothing_given w) all
    ∙ ap stage (sym (map-map (where_fate w.role w.query) (combination_at w.tables) all))

-- rows that are dropped make no difference
pub dropped_rows : (w : World) (all : List (List Slot)) → answer w.role w.query (map (combination_at w.tables) (filter (wants_all (keeps_row w)) all)) ≡ answer w.role w.query (map (combination_at w.tables) all)
dropped_rows w all = ap (λ kept. kept >>= rows_of_kept w.role w.query) (where_same w all)
