-- Each rule keeps the bag and the entries, and that no condition can fault.
use Rattle.std.proofs.Common.{◌≡◌, ℕ, zero, suc, ◌<◌, Bool, true, false, ◌&&◌, ◌||◌, cond, List, [], ◌∷◌, length, filter, slice_get, Option, Some, None, Ok, Err, refl, sym, ap, ◌∙◌, subst}
use Rattle.bags.specs.Products.{product}
use Rattle.bags.proofs.Order.{SameSums}
use Rattle.bags.proofs.Products.{filter-swap, product-swap, product-exchange}
use Rattle.bags.proofs.Bags.{SameSums-filter}
use Rattle.bags.proofs.LeftProducts.{left_product-filter_left, left_product-inner}
use Rattle.bags.proofs.Members.{Each, each-always, filter-all, filter-none, filter-same, product-filter_members}
use Rattle.std.proofs.lemmas.Bool.{and_from}
use Rattle.predicates.proofs.Movables.{and_left, and_right}
use Rattle.expr.specs.declared.bound.ColumnId.{ColumnId}
use Rattle.expr.specs.Bound.{BoundExpr}
use Rattle.expr.specs.Movable.{movable}
use Rattle.tuples.specs.declared.slot.Slot.{Slot}
use Rattle.tuples.specs.declared.slot.Slot.TheVariants as slot
use Rattle.tuples.specs.Guards.{Guard}
use Rattle.tuples.specs.Slots.{slot_at}
use Rattle.predicates.specs.Datum.{cell, null}
use Rattle.predicates.specs.Meaning.{Cells}
use Rattle.tuples.specs.Combinations.{joined_cells}
use Rattle.tuples.specs.World.{GuardedTable, World, combination_at}
use Rattle.tuples.proofs.Slots.{at_slot, row_of_slot}
use Rattle.row_terms.specs.Terms.{Term, Raw, Guarded, Filtered, Joined, LeftJoined, Empty, covers, entries_in}
use Rattle.row_terms.specs.Means.{union, null_rows, shows_entry, passes, mean}
use Rattle.row_terms.proofs.Unions.{is_there, union-swap, union-exchange, right_slot}
use Rattle.row_terms.proofs.Ranges.{decides}
use Rattle.row_terms.proofs.Covered.{decided_left, nulls_at, beyond, here_or_beyond}
use Rattle.predicates.specs.Connectives.{both, parted, factored}
use Rattle.predicates.specs.Equalities.{is_never_true, not_null_form}
use Rattle.predicates.specs.Folded.{folded}
use Rattle.predicates.specs.Inward.{inward}
use Rattle.predicates.specs.NullRows.{rejects_null_rows}
use Rattle.predicates.specs.Same.{same}
use Rattle.algebra.specs.declared.step.Reason.TheVariants.{Misfit}
use Rattle.algebra.specs.Runs.{run, stands_in, reads_only, is_only, emptied}
use Rattle.algebra.specs.Rules
use Rattle.algebra.specs.Rules.{under, in_two, is_open, is_given, is_empty, has_empty_input, following, by_run}
use Rattle.algebra.specs.Keeping.{HasFrame, is_movable_term}
use Rattle.algebra.proofs.Keeps.{Keeps, SameEntries, same_list, when}
use Rattle.algebra.proofs.Held.{run_held, run_movable, found_held, guard_held}
use Rattle.predicates.proofs.Connected.{both_hold, both_movable, parts_hold, parts_movable, factored_holds, factored_movable}
use Rattle.predicates.proofs.Equal.{exact}
use Rattle.predicates.proofs.Rejects.{rejected}
use Rattle.predicates.proofs.Sides.{not_null_holds, not_null_movable, never_true}
use Rattle.predicates.proofs.Truth.{inward_movable}
use Rattle.algebra.proofs.Conditions.{inward_rows, folded_rows, folded_movable, derived_holds, derived_movable}

-- ---- filters one on another

-- two filters are one whose test is both
filter-both : {X : Type 0} (p a r : X → Bool) → ((x : X) → p x ≡ a x && r x) → (xs : List X) → filter p xs ≡ filter r (filter a xs)
filter-both p a r h [] = refl
filter-both p a r h (x ∷ xs) = ap (λ b. cond b (x ∷ filter p xs) (filter p xs)) (h x) ∙ go (a x) (filter-both p a r h xs)
  where
    go : (b : Bool) → filter p xs ≡ filter r (filter a xs) → cond (b && r x) (x ∷ filter p xs) (filter p xs) ≡ filter r (cond b (x ∷ filter a xs) (filter a xs))
    go true k = ap (λ l. cond (r x) (x ∷ l) l) k
    go false k = k

module _ (w : World) where
  abbrev stays : (x : Term) → SameEntries (length w.tables) x x
  stays x i b = refl

  abbrev cells_at : List Slot → Cells
  cells_at c = joined_cells (combination_at w.tables c)

  pub split_filter-keeps : (x : Term) → is_movable_term x ≡ true → Keeps w x (Rules.split_filter x)
  split_filter-keeps (Filtered e x) m = go (parted e) refl
    where
      go : (o : Option (BoundExpr × BoundExpr)) → parted e ≡ o → Keeps w (Filtered e x) (in_two o x)
      go None h = tt
      go (Some (a, r)) h =
          let parts = parts_movable e a r h (and_left (movable e) (is_movable_term x) m) in (
            and_from (movable r) (movable a && is_movable_term x) parts.1 (and_from (movable a) (is_movable_term x) parts.0 (and_right (movable e) (is_movable_term x) m)),
            stays x,
            same_list (filter-both (passes w e) (passes w a) (passes w r) (λ c. parts_hold (cells_at c) w.role e a r h) (mean w x)),
          )
  split_filter-keeps _ m = tt

  pub merge_filters-keeps : (x : Term) → is_movable_term x ≡ true → Keeps w x (Rules.merge_filters x)
  merge_filters-keeps (Filtered b (Filtered a x)) m =
      let rest = and_right (movable b) (movable a && is_movable_term x) m in
      when w (Filtered b (Filtered a x)) (Filtered (both a b) x) _ (λ h. (
        and_from (movable (both a b)) (is_movable_term x) (both_movable a b (and_left (movable a) (is_movable_term x) rest) (and_left (movable b) (movable a && is_movable_term x) m)) (and_right (movable a) (is_movable_term x) rest),
        stays x,
        same_list (sym (filter-both (passes w (both a b)) (passes w a) (passes w b) (λ c. both_hold (cells_at c) w.role a b) (mean w x))),
      ))
  merge_filters-keeps _ m = tt

  pub swap_filters-keeps : (x : Term) → is_movable_term x ≡ true → Keeps w x (Rules.swap_filters x)
  swap_filters-keeps (Filtered b (Filtered a x)) m =
      let rest = and_right (movable b) (movable a && is_movable_term x) m in (
        and_from (movable a) (movable b && is_movable_term x) (and_left (movable a) (is_movable_term x) rest)
            (and_from (movable b) (is_movable_term x) (and_left (movable b) (movable a && is_movable_term x) m) (and_right (movable a) (is_movable_term x) rest)),
        stays x,
        filter-swap (passes w b) (passes w a) (mean w x),
      )
  swap_filters-keeps _ m = tt

  pub drop_filter-keeps : (x : Term) → is_movable_term x ≡ true → Keeps w x (Rules.drop_filter x)
  drop_filter-keeps (Filtered e x) m =
      when w (Filtered e x) x (stands_in e (run x)) (λ h. (and_right (movable e) (is_movable_term x) m, stays x, same_list (filter-all (passes w e) (mean w x) (found_held w same exact e x h))))
  drop_filter-keeps _ m = tt

  -- a filter that all combinations pass
  under-keeps : (x : Term) (o : Option BoundExpr) → is_movable_term x ≡ true → ((e : BoundExpr) → o ≡ Some e → (movable e ≡ true) × Each (λ c. passes w e c ≡ true) (mean w x)) → Keeps w x (under o x)
  under-keeps x None m h = tt
  under-keeps x (Some e) m h = (and_from (movable e) (is_movable_term x) (h e refl).0 m, stays x, same_list (sym (filter-all (passes w e) (mean w x) (h e refl).1)))

  pub copy_filter-keeps : (n : ℕ) (x : Term) → is_movable_term x ≡ true → Keeps w x (Rules.copy_filter n x)
  copy_filter-keeps n x m = under-keeps x (slice_get (run x) n) m (λ e h. (run_movable e n x m h, run_held w e n x h))

  pub add_filter-keeps : (is_constant : Bool) (p q : ℕ) (x : Term) → is_movable_term x ≡ true → Keeps w x (Rules.add_filter (following is_constant) p q x)
  add_filter-keeps is_constant p q x m = under-keeps x (by_run (following is_constant) p q (run x)) m (λ e h. (derived_movable is_constant p q (run x) e h, derived_holds w is_constant p q x e h))

  pub drop_added-keeps : (is_constant : Bool) (p q : ℕ) (x : Term) → is_movable_term x ≡ true → Keeps w x (Rules.drop_added (following is_constant) p q x)
  drop_added-keeps is_constant p q (Filtered e x) m = go (by_run (following is_constant) p q (run x)) refl
    where
      go : (o : Option BoundExpr) → by_run (following is_constant) p q (run x) ≡ o → Keeps w (Filtered e x) (Rules.where_met (is_given e o) x)
      go None h = tt
      go (Some f) h =
          when w (Filtered e x) x (same e f) (λ k. (
            and_right (movable e) (is_movable_term x) m,
            stays x,
            same_list (filter-all (passes w e) (mean w x) (subst (λ g. Each (λ c. passes w g c ≡ true) (mean w x)) (sym (exact e f k)) (derived_holds w is_constant p q x f h))),
          ))
  drop_added-keeps is_constant p q _ m = tt

  -- ---- joins

  filter_moves : (e : BoundExpr) (x y : Term) → reads_only x e ≡ true → SameSums (mean w (Filtered e (Joined x y))) (mean w (Joined (Filtered e x) y))
  filter_moves e x y h = product-filter_members union (passes w e) (mean w x) (mean w y) (decided_left w e x h)

  -- the same by way of the exchanged sides
  filter_moves_right : (e : BoundExpr) (x y : Term) → reads_only y e ≡ true → SameSums (mean w (Filtered e (Joined x y))) (mean w (Joined x (Filtered e y)))
  filter_moves_right e x y h f =
      swapped f ∙ filter_moves e y x h f ∙ product-swap union union-swap (mean w (Filtered e y)) (mean w x) f
    where
      swapped : SameSums (mean w (Filtered e (Joined x y))) (mean w (Filtered e (Joined y x)))
      swapped = SameSums-filter (product union (mean w x) (mean w y)) (product union (mean w y) (mean w x)) (product-swap union union-swap (mean w x) (mean w y)) (passes w e)

  to_left : (a b c : Bool) → a && (b && c) ≡ true → (a && b) && c ≡ true
  to_left true b c h = h
  to_left false b c h = h

  from_left : (a b c : Bool) → (a && b) && c ≡ true → a && (b && c) ≡ true
  from_left true b c h = h
  from_left false b c h = h

  to_right : (a b c : Bool) → a && (b && c) ≡ true → b && (a && c) ≡ true
  to_right true b c h = h
  to_right false b c h = absurd (cc)

  pub push_left-keeps : (x : Term) → is_movable_term x ≡ true → Keeps w x (Rules.push_left x)
  push_left-keeps (Filtered e (Joined x y)) m =
      when w (Filtered e (Joined x y)) (Joined (Filtered e x) y) (reads_only x e) (λ h. (to_left (movable e) (is_movable_term x) (is_movable_term y) m, stays (Joined x y), filter_moves e x y h))
  push_left-keeps _ m = tt

  pub pull_left-keeps : (x : Term) → is_movable_term x ≡ true → Keeps w x (Rules.pull_left x)
  pull_left-keeps (Joined (Filtered e x) y) m =
      when w (Joined (Filtered e x) y) (Filtered e (Joined x y)) (reads_only x e) (λ h. (from_left (movable e) (is_movable_term x) (is_movable_term y) m, stays (Joined x y), λ f. sym (filter_moves e x y h f)))
  pull_left-keeps _ m = tt

  pub push_right-keeps : (x : Term) → is_movable_term x ≡ true → Keeps w x (Rules.push_right x)
  push_right-keeps (Filtered e (Joined x y)) m =
      when w (Filtered e (Joined x y)) (Joined x (Filtered e y)) (reads_only y e) (λ h. (to_right (movable e) (is_movable_term x) (is_movable_term y) m, stays (Joined x y), filter_moves_right e x y h))
  push_right-keeps _ m = tt

  pub pull_right-keeps : (x : Term) → is_movable_term x ≡ true → Keeps w x (Rules.pull_right x)
  pull_right-keeps (Joined x (Filtered e y)) m =
      when w (Joined x (Filtered e y)) (Filtered e (Joined x y)) (reads_only y e) (λ h. (to_right (is_movable_term x) (movable e) (is_movable_term y) m, stays (Joined x y), λ f. sym (filter_moves_right e x y h f)))
  pull_right-keeps _ m = tt

  or-swap : (a b : Bool) → (a || b) ≡ (b || a)
  or-swap true true = refl
  or-swap true false = refl
  or-swap false true = refl
  or-swap false false = refl

  or-exchange : (a b c : Bool) → ((a || b) || c) ≡ ((a || c) || b)
  or-exchange true b c = refl
  or-exchange false b c = or-swap b c

  swapped : (a b : Bool) → a && b ≡ true → b && a ≡ true
  swapped true b h = rw h refl
  swapped false b h = absurd (cc)

  pub swap_sides-keeps : (x : Term) → is_movable_term x ≡ true → Keeps w x (Rules.swap_sides x)
  swap_sides-keeps (Joined x y) m = (swapped (is_movable_term x) (is_movable_term y) m, λ i b. or-swap (covers x i) (covers y i), product-swap union union-swap (mean w x) (mean w y))
  swap_sides-keeps _ m = tt

  exchanged : (a b c : Bool) → (a && b) && c ≡ true → (a && c) && b ≡ true
  exchanged true b c h = swapped b c h
  exchanged false b c h = h

  pub exchange_right-keeps : (x : Term) → is_movable_term x ≡ true → Keeps w x (Rules.exchange_right x)
  exchange_right-keeps (Joined (Joined x y) z) m =
      (exchanged (is_movable_term x) (is_movable_term y) (is_movable_term z) m, λ i b. or-exchange (covers x i) (covers y i) (covers z i), product-exchange union union-exchange (mean w x) (mean w y) (mean w z))
  exchange_right-keeps _ m = tt

  -- ---- left joins

  -- on a combination with the null rows of a term, a condition that rejects them is not true
  rejected_on_nulls : (y : Term) (f : BoundExpr) → rejects_null_rows (covers y) f ≡ true → (c z : List Slot) → union c (null_rows (entries_in (length w.tables) y)) ≡ Some z → passes w f z ≡ false
  rejected_on_nulls y f h c z u = rejected (covers y) f (cells_at z) w.role h nulls
    where
      null_slot : (i : ℕ) → covers y i ≡ true → i < length w.tables → slot_at z i ≡ slot.NullRow
      null_slot i has l = right_slot c (null_rows (entries_in (length w.tables) y)) z i u (ap is_there (nulls_at w y i has l)) ∙ nulls_at w y i has l

      no_row : (t : Option GuardedTable) → row_of_slot t slot.NullRow ≡ []
      no_row None = refl
      no_row (Some t) = refl

      nulls : (id : ColumnId) → covers y id.entry ≡ true → (cells_at z).column id ≡ null
      nulls id has =
          ap (λ row. cell row id.column)
          (at_slot w.tables z id.entry
          ∙ here_or_beyond w (row_of_slot (slice_get w.tables id.entry) (slot_at z id.entry) ≡ []) id.entry
          (λ l. ap (row_of_slot (slice_get w.tables id.entry)) (null_slot id.entry has l) ∙ no_row (slice_get w.tables id.entry))
          (λ b. ap (λ t. row_of_slot t (slot_at z id.entry)) (beyond w.tables id.entry b)))

  pub make_inner-keeps : (x : Term) → is_movable_term x ≡ true → Keeps w x (Rules.make_inner x)
  make_inner-keeps (Filtered f (LeftJoined on x y)) m =
      when w (Filtered f (LeftJoined on x y)) (Filtered f (Filtered on (Joined x y))) (rejects_null_rows (covers y) f) (λ h. (
        m,
        stays (Joined x y),
        same_list (left_product-inner union (passes w on) (null_rows (entries_in (length w.tables) y)) (passes w f) (mean w x) (mean w y) (each-always _ (λ c z u. rejected_on_nulls y f h c z u) (mean w x))),
      ))
  make_inner-keeps _ m = tt

  filter_under : (on f : BoundExpr) (x y : Term) → reads_only x f ≡ true → mean w (Filtered f (LeftJoined on x y)) ≡ mean w (LeftJoined on (Filtered f x) y)
  filter_under on f x y h = left_product-filter_left union (passes w on) (null_rows (entries_in (length w.tables) y)) (passes w f) (mean w x) (mean w y) (decided_left w f x h)

  under_left : (f on x y : Bool) → f && (on && (x && y)) ≡ true → on && ((f && x) && y) ≡ true
  under_left true on x y h = h
  under_left false on x y h = absurd (cc)

  over_left : (f on x y : Bool) → on && ((f && x) && y) ≡ true → f && (on && (x && y)) ≡ true
  over_left true on x y h = h
  over_left false true x y h = h
  over_left false false x y h = h

  pub push_under_left-keeps : (x : Term) → is_movable_term x ≡ true → Keeps w x (Rules.push_under_left x)
  push_under_left-keeps (Filtered f (LeftJoined on x y)) m =
      when w (Filtered f (LeftJoined on x y)) (LeftJoined on (Filtered f x) y) (reads_only x f)
      (λ h. (under_left (movable f) (movable on) (is_movable_term x) (is_movable_term y) m, stays (LeftJoined on x y), same_list (filter_under on f x y h)))
  push_under_left-keeps _ m = tt

  pub pull_over_left-keeps : (x : Term) → is_movable_term x ≡ true → Keeps w x (Rules.pull_over_left x)
  pull_over_left-keeps (LeftJoined on (Filtered f x) y) m =
      when w (LeftJoined on (Filtered f x) y) (Filtered f (LeftJoined on x y)) (reads_only x f)
      (λ h. (over_left (movable f) (movable on) (is_movable_term x) (is_movable_term y) m, stays (LeftJoined on x y), same_list (sym (filter_under on f x y h))))
  pull_over_left-keeps _ m = tt

  -- ---- guards

  pub push_under_guard-keeps : (x : Term) → is_movable_term x ≡ true → Keeps w x (Rules.push_under_guard x)
  push_under_guard-keeps (Filtered e (Guarded i x)) m = (m, stays x, filter-swap (passes w e) (shows_entry w i) (mean w x))
  push_under_guard-keeps _ m = tt

  pub pull_over_guard-keeps : (x : Term) → is_movable_term x ≡ true → Keeps w x (Rules.pull_over_guard x)
  pull_over_guard-keeps (Guarded i (Filtered e x)) m = (m, stays x, filter-swap (shows_entry w i) (passes w e) (mean w x))
  pull_over_guard-keeps _ m = tt

  module _ (frame : List Guard) (has : HasFrame w frame) where
    pub drop_guard-keeps : (x : Term) → is_movable_term x ≡ true → Keeps w x (Rules.drop_guard frame x)
    drop_guard-keeps (Guarded i x) m = when w (Guarded i x) x (is_open frame i) (λ h. (m, stays x, same_list (filter-all (shows_entry w i) (mean w x) (guard_held w frame has i x h))))
    drop_guard-keeps _ m = tt

    pub add_guard-keeps : (n : ℕ) (x : Term) → is_movable_term x ≡ true → Keeps w x (Rules.add_guard frame n x)
    add_guard-keeps zero x m = tt
    add_guard-keeps (suc i) x m =
        when w x (Guarded i x) (is_open frame i && is_only i x) (λ h. (m, stays x, same_list (sym (filter-all (shows_entry w i) (mean w x) (guard_held w frame has i x (and_left (is_open frame i) (is_only i x) h))))))

  -- ---- one filter

  -- a condition that holds on the same combinations
  form-keeps : (e f : BoundExpr) (x : Term) → is_movable_term (Filtered e x) ≡ true → movable f ≡ true → ((c : List Slot) → passes w f c ≡ passes w e c) → Keeps w (Filtered e x) (Ok (Filtered f x))
  form-keeps e f x m movable_f rows = (
    and_from (movable f) (is_movable_term x) movable_f (and_right (movable e) (is_movable_term x) m),
    stays x,
    same_list (filter-same (passes w e) (passes w f) (mean w x) (each-always _ (λ c. sym (rows c)) (mean w x))),
  )

  pub carry_not-keeps : (x : Term) → is_movable_term x ≡ true → Keeps w x (Rules.carry_not x)
  carry_not-keeps (Filtered e x) m = form-keeps e (inward e) x m (inward_movable e (and_left (movable e) (is_movable_term x) m)) (inward_rows w e)
  carry_not-keeps _ m = tt

  pub fold_literals-keeps : (x : Term) → is_movable_term x ≡ true → Keeps w x (Rules.fold_literals x)
  fold_literals-keeps (Filtered e x) m = let k = and_left (movable e) (is_movable_term x) m in form-keeps e (folded e) x m (folded_movable e k) (folded_rows w e k)
  fold_literals-keeps _ m = tt

  some_form-keeps : (e : BoundExpr) (x : Term) (o : Option BoundExpr) → is_movable_term (Filtered e x) ≡ true → ((f : BoundExpr) → o ≡ Some f → (movable f ≡ true) × ((c : List Slot) → passes w f c ≡ passes w e c)) → Keeps w (Filtered e x) (under o x)
  some_form-keeps e x None m h = tt
  some_form-keeps e x (Some f) m h = form-keeps e f x m (h f refl).0 (h f refl).1

  pub factor_out-keeps : (x : Term) → is_movable_term x ≡ true → Keeps w x (Rules.factor_out x)
  factor_out-keeps (Filtered e x) m = let k = and_left (movable e) (is_movable_term x) m in some_form-keeps e x (factored e) m (λ f h. (factored_movable e f k h, λ c. factored_holds (cells_at c) w.role e f k h))
  factor_out-keeps _ m = tt

  pub not_null-keeps : (x : Term) → is_movable_term x ≡ true → Keeps w x (Rules.not_null x)
  not_null-keeps (Filtered e x) m = let k = and_left (movable e) (is_movable_term x) m in some_form-keeps e x (not_null_form e) m (λ f h. (not_null_movable e f k h, λ c. not_null_holds (cells_at c) w.role e f h))
  not_null-keeps _ m = tt

  -- ---- empty terms

  -- a term that is emptied covers the same entries
  empties : (count : ℕ) → count ≡ length w.tables → (x : Term) → SameEntries (length w.tables) x (emptied count x)
  empties count all x i b = sym (decides (covers x) count i (rw all b) (covers x i) refl)

  pub empty_filter-keeps : (count : ℕ) → count ≡ length w.tables → (x : Term) → is_movable_term x ≡ true → Keeps w x (Rules.empty_filter count x)
  empty_filter-keeps count all (Filtered e x) m =
      when w (Filtered e x) (emptied count x) (is_never_true e) (λ h. (refl, empties count all x, same_list (filter-none (passes w e) (mean w x) (each-always _ (λ c. never_true e h (cells_at c) w.role) (mean w x)))))
  empty_filter-keeps count all _ m = tt

  none_right : (xs : List (List Slot)) → product union xs [] ≡ []
  none_right [] = refl
  none_right (x ∷ xs) = none_right xs

  nothing_in : (x : Term) → is_empty x ≡ true → mean w x ≡ []
  nothing_in (Empty entries) h = refl
  nothing_in (Raw i) h = absurd (cc)
  nothing_in (Guarded i x) h = absurd (cc)
  nothing_in (Filtered e x) h = absurd (cc)
  nothing_in (Joined x y) h = absurd (cc)
  nothing_in (LeftJoined on x y) h = absurd (cc)

  nothing_taken : (x : Term) → has_empty_input x ≡ true → mean w x ≡ []
  nothing_taken (Joined x y) h = go (is_empty x) refl h
    where
      go : (b : Bool) → is_empty x ≡ b → b || is_empty y ≡ true → product union (mean w x) (mean w y) ≡ []
      go true e h = ap (λ l. product union l (mean w y)) (nothing_in x e)
      go false e h = ap (product union (mean w x)) (nothing_in y h) ∙ none_right (mean w x)
  nothing_taken (Filtered e x) h = ap (filter (passes w e)) (nothing_in x h)
  nothing_taken (Guarded i x) h = ap (filter (shows_entry w i)) (nothing_in x h)
  nothing_taken (Raw i) h = absurd (cc)
  nothing_taken (LeftJoined on x y) h = absurd (cc)
  nothing_taken (Empty entries) h = absurd (cc)

  pub empty_input-keeps : (count : ℕ) → count ≡ length w.tables → (x : Term) → is_movable_term x ≡ true → Keeps w x (Rules.empty_input count x)
  empty_input-keeps count all x m = go (has_empty_input x) refl
    where
      go : (b : Bool) → has_empty_input x ≡ b → Keeps w x (cond b (Ok (emptied count x)) (Err Misfit))
      go true e = (refl, empties count all x, same_list (nothing_taken x e))
      go false e = tt
