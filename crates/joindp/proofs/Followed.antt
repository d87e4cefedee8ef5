-- The ways in which the rows of an entry may be read and joined, and the steps that may come first, are those that are listed.
use Rattle.std.proofs.Common.{◌≡◌, ℕ, zero, suc, ◌+◌, ◌-◌, ◌<◌, Bool, true, false, ◌&&◌, ◌==◌, List, length, filter, map, Option, Some, None, slice_get, refl, sym, ap, ◌∙◌, subst, arith, ◌⊎◌, inl, inr, true≢false}
use Rattle.std.specs.List.{range_with_len}
use Rattle.std.proofs.lemmas.Bool.{and_from, and_parts, le-leb}
use Rattle.std.proofs.lemmas.Option.{slice_get_within}
use Rattle.expr.specs.declared.code.Access.{Access}
use Rattle.expr.specs.declared.code.Access.TheVariants.{Full, Index, Range}
use Rattle.expr.specs.declared.code.Method.{Method}
use Rattle.expr.specs.declared.code.Method.TheVariants.{Nested, Hash, Merge}
use Rattle.expr.specs.declared.code.CodeStep.{CodeStep}
use Rattle.expr.specs.declared.bound.ColumnId.{ColumnId}
use Rattle.expr.specs.Bound.{BoundExpr}
use Rattle.predicates.specs.Equalities.{column_sides}
use Rattle.stats.specs.Card.{Entries}
use Rattle.trailcheck.specs.Admissible.{bounds, condition_at, is_allowed_access, is_indexed, is_listed, is_some_and}
use Rattle.trailcheck.specs.Settings.{Setting, inner_count}
use Rattle.trailcheck.specs.Shapes.{entry_index}
use Rattle.joindp.specs.Following.{accesses, all_numbers, by_index, columns_indexed, equates_with, first_step, first_steps, is_equality, may_be_next, may_follow, may_join_by, parts_of_index, span, step_of}
use Rattle.joindp.specs.Walks.{IsOneOf}
use Rattle.joindp.proofs.Elements.{from_any, from_filter, from_flat_map, from_map, from_range, in_any, in_filter, in_flat_map, in_map, in_range}
use Rattle.joindp.proofs.NewSteps.{is_new}

module _ (at : Setting) where
  -- a number under which there is a condition
  pub numbered : (test : BoundExpr → Bool) (number : ℕ) → is_some_and test (condition_at at number) ≡ true → IsOneOf (all_numbers at) number
  numbered test zero h = absurd (cc)
  numbered test (suc k) h = go (slice_get at.conditions k) refl h
    where
      go : (o : Option BoundExpr) → slice_get at.conditions k ≡ o → is_some_and test o ≡ true → IsOneOf (range_with_len 1 (length at.conditions)) (suc k)
      go None e passes = absurd (cc)
      go (Some x) e passes = let within = slice_get_within at.conditions k x e in in_range 1 (length at.conditions) (suc k) (omega arith) (omega arith)

  -- ---- accesses

  module _ (entry : ℕ) where
    in_columns : (column : ℕ) (o : Option (List ℕ)) → is_listed column o ≡ true → IsOneOf (columns_indexed o) column
    in_columns column None h = absurd (cc)
    in_columns column (Some columns) h = in_any columns column h

    from_columns : (column : ℕ) (o : Option (List ℕ)) → IsOneOf (columns_indexed o) column → is_listed column o ≡ true
    from_columns column None h = absurd h
    from_columns column (Some columns) h = from_any columns column h

    pub all_accesses : (a : Access) → is_allowed_access at entry a ≡ true → IsOneOf (accesses at entry) a
    all_accesses Full h = inl refl
    all_accesses (Index column) h =
        inr (in_flat_map (by_index at entry) (columns_indexed (slice_get at.indexed entry)) column (Index column) (in_columns column (slice_get at.indexed entry) h) (inl refl))
    all_accesses (Range column bound) h =
        let test = λ (number : ℕ). is_some_and (bounds entry column) (condition_at at number) in
        let parts = and_parts (is_indexed at entry column) (test bound) h in
        let number = in_filter test (all_numbers at) bound (numbered (bounds entry column) bound parts.1) parts.1 in
        inr (in_flat_map (by_index at entry) (columns_indexed (slice_get at.indexed entry)) column (Range column bound) (in_columns column (slice_get at.indexed entry) parts.0) (inr (in_map (λ (n : ℕ). Range column n) (filter test (all_numbers at)) bound number)))

    pub allowed : (a : Access) → IsOneOf (accesses at entry) a → is_allowed_access at entry a ≡ true
    allowed a (inl same) = subst (λ x. is_allowed_access at entry x ≡ true) same refl
    allowed a (inr there) = go (from_flat_map (by_index at entry) (columns_indexed (slice_get at.indexed entry)) a there)
      where
        part : (column : ℕ) → is_indexed at entry column ≡ true → (n : ℕ) × IsOneOf (filter (λ number. is_some_and (bounds entry column) (condition_at at number)) (all_numbers at)) n × (Range column n ≡ a) → is_allowed_access at entry a ≡ true
        part column listed (n, passing, same) =
            let k = from_filter (λ (number : ℕ). is_some_and (bounds entry column) (condition_at at number)) (all_numbers at) n passing in
            subst (λ x. is_allowed_access at entry x ≡ true) same (and_from (is_indexed at entry column) (is_some_and (bounds entry column) (condition_at at n)) listed k.1)

        by : (column : ℕ) → is_indexed at entry column ≡ true → (Index column ≡ a) ⊎ IsOneOf (parts_of_index at entry column) a → is_allowed_access at entry a ≡ true
        by column listed (inl same) = subst (λ x. is_allowed_access at entry x ≡ true) same listed
        by column listed (inr h) = part column listed (from_map (λ (n : ℕ). Range column n) (filter (λ number. is_some_and (bounds entry column) (condition_at at number)) (all_numbers at)) a h)

        go : (column : ℕ) × IsOneOf (columns_indexed (slice_get at.indexed entry)) column × IsOneOf (by_index at entry column) a → is_allowed_access at entry a ≡ true
        go (column, listed, h) = by column (from_columns column (slice_get at.indexed entry) listed) h

  -- ---- equalities

  -- an equality that joins the entry to the set
  pub equality_listed : (placed : Entries) (entry number : ℕ) → is_equality at placed entry number ≡ true → IsOneOf (filter (is_equality at placed entry) (all_numbers at)) number
  equality_listed placed entry number passes = in_filter (is_equality at placed entry) (all_numbers at) number (numbered (equates_with placed entry) number passes) passes

  -- none joins an entry to no entry
  and_false : (t : Bool) → (t && false) ≡ false
  and_false true = refl
  and_false false = refl

  no_span : (entry : ℕ) (o : Option (ColumnId × ColumnId)) → span (λ entry. false) entry o ≡ true → ⊥
  no_span entry None h = true≢false (sym h)
  no_span entry (Some (a, b)) h = true≢false (sym h ∙ and_false (a.entry == entry))

  no_equality : (entry : ℕ) (o : Option BoundExpr) → is_some_and (equates_with (λ entry. false) entry) o ≡ true → ⊥
  no_equality entry None h = true≢false (sym h)
  no_equality entry (Some e) h = no_span entry (column_sides e) h

  none_joins : (entry : ℕ) (m : Method) → may_join_by at (λ entry. false) entry m ≡ true → m ≡ Nested
  none_joins entry Nested h = refl
  none_joins entry (Hash number) h = absurd (no_equality entry (condition_at at number) h)
  none_joins entry (Merge number) h = absurd (no_equality entry (condition_at at number) h)

  -- ---- steps

  pub step_follows : (placed : Entries) (i : ℕ) (a : Access) (m : Method) → i < inner_count at → may_be_next at placed i ≡ true → is_allowed_access at i a ≡ true → may_join_by at placed i m ≡ true → may_follow at placed (step_of i a m) ≡ true
  step_follows placed i a m within next access method =
      let index : i + 1 - 1 ≡ i = omega arith in
      and_from _ _
      (and_from _ _ (and_from _ _ (le-leb 1 (i + 1) (omega arith)) (le-leb (i + 1) (inner_count at) (omega arith))) (ap (may_be_next at placed) index ∙ next))
      (and_from _ _ (ap (λ (n : ℕ). is_allowed_access at n a) index ∙ access) (ap (λ (n : ℕ). may_join_by at placed n m) index ∙ method))

  -- each step that may come first is listed
  pub all_first : (s : CodeStep) → may_follow at (λ entry. false) s ≡ true → IsOneOf (first_steps at) s
  all_first s h =
      let new = is_new at (λ entry. false) s h in
      let i : ℕ = entry_index s in
      let number : i + 1 ≡ s.entry = let one = new.from_one in omega (arith, one) in
      let same : step_of i s.access Nested ≡ s =
      ap (λ (n : ℕ). let t : CodeStep = record { entry = n; access = s.access; method = Nested } in t) number
      ∙ ap (λ (m : Method). let t : CodeStep = record { entry = s.entry; access = s.access; method = m } in t) (sym (none_joins i s.method new.method)) in
      let to = subst (IsOneOf (map (first_step i) (accesses at i))) same (in_map (first_step i) (accesses at i) s.access (all_accesses i s.access new.access)) in
      in_flat_map (λ (entry : ℕ). map (first_step entry) (accesses at entry)) (filter (may_be_next at (λ entry. false)) (range_with_len 0 (inner_count at))) i s
      (in_filter (may_be_next at (λ entry. false)) (range_with_len 0 (inner_count at)) i (in_range 0 (inner_count at) i (omega arith) (omega (arith, new.below))) new.next) to

  -- and each that is listed may come first
  pub first_follow : (s : CodeStep) → IsOneOf (first_steps at) s → may_follow at (λ entry. false) s ≡ true
  first_follow s h =
      let f = from_flat_map (λ (entry : ℕ). map (first_step entry) (accesses at entry)) (filter (may_be_next at (λ entry. false)) (range_with_len 0 (inner_count at))) s h in
      let k = from_filter (may_be_next at (λ entry. false)) (range_with_len 0 (inner_count at)) f.0 f.1 in
      let r = from_range 0 (inner_count at) f.0 k.0 in
      let m = from_map (first_step f.0) (accesses at f.0) s f.2 in
      subst (λ x. may_follow at (λ entry. false) x ≡ true) m.2 (step_follows (λ entry. false) f.0 m.0 Nested (omega (arith, r.1)) k.1 (allowed f.0 m.0 m.1) refl)
