-- An entry at the index of its key.
use Rattle.std.proofs.Common.{◌≡◌, ℕ, zero, suc, ◌+◌, ◌≤◌, Bool, true, false, cond, List, [], ◌∷◌, set, get_or, Option, Some, None, refl, ap, ◌∙◌, sym, arith}
use Rattle.std.specs.List.{position_from, remove}
use Rattle.std.specs.Map.{lookup, remove_entry, set_value}
use Rattle.memory.proofs.Cases.{some_is, none_is_not, some_is_not}
use Rattle.catalog.proofs.Positions.{some_of}

module _ {K X : Type 0} (test : K → Bool) where
  abbrev at : ℕ → List (K × X) → Option ℕ
  at k es = position_from (λ e. test e.0) k es

  -- an index is counted from the first number on
  at_least : (es : List (K × X)) (k i : ℕ) → at k es ≡ Some i → k ≤ i
  at_least [] k i h = absurd (none_is_not i h)
  at_least (e ∷ es) k i h = go (test e.0) h (at_least es (k + 1) i)
    where
      go : (b : Bool) → cond b (Some k) (at (k + 1) es) ≡ Some i → (at (k + 1) es ≡ Some i → k + 1 ≤ i) → k ≤ i
      go true h more = let q = some_is k i h in omega arith
      go false h more = let q = more h in omega arith

  none_from : (es : List (K × X)) (k : ℕ) → at k es ≡ None → lookup test es ≡ None
  none_from [] k h = refl
  none_from (e ∷ es) k h = go (test e.0) h (none_from es (k + 1))
    where
      go : (b : Bool) → cond b (Some k) (at (k + 1) es) ≡ None → (at (k + 1) es ≡ None → lookup test es ≡ None) → cond b (Some e.1) (lookup test es) ≡ None
      go true h more = absurd (some_is_not k h)
      go false h more = more h

  -- where there is no index, nothing is found
  pub none_found : (es : List (K × X)) → at 0 es ≡ None → lookup test es ≡ None
  none_found es h = none_from es 0 h

  module _ (d : K × X) where
    found_from : (es : List (K × X)) (k i : ℕ) → at k es ≡ Some (k + i) → lookup test es ≡ Some (get_or es i d).1
    found_from [] k i h = absurd (none_is_not (k + i) h)
    found_from (e ∷ es) k zero h = go (test e.0) h
      where
        go : (b : Bool) → cond b (Some k) (at (k + 1) es) ≡ Some (k + zero) → cond b (Some e.1) (lookup test es) ≡ Some e.1
        go true h = refl
        go false h = absurd (let q = at_least es (k + 1) (k + zero) h in omega arith)
    found_from (e ∷ es) k (suc i) h = go (test e.0) h (found_from es (k + 1) i)
      where
        go : (b : Bool) → cond b (Some k) (at (k + 1) es) ≡ Some (k + suc i) → (at (k + 1) es ≡ Some (k + 1 + i) → lookup test es ≡ Some (get_or es i d).1)
            → cond b (Some e.1) (lookup test es) ≡ Some (get_or es i d).1
        go true h more = absurd (let q = some_is k (k + suc i) h in omega arith)
        go false h more = more (h ∙ some_of (k + suc i) (k + 1 + i) (omega arith))

    -- the entry at the index is the one that is found
    pub found_at : (es : List (K × X)) (i : ℕ) → at 0 es ≡ Some i → lookup test es ≡ Some (get_or es i d).1
    found_at es i h = found_from es 0 i (h ∙ some_of i (0 + i) (omega arith))

    module _ (w : X) where
      set_from : (es : List (K × X)) (k i : ℕ) → at k es ≡ Some (k + i) → set es i ((get_or es i d).0, w) ≡ set_value test es w
      set_from [] k i h = absurd (none_is_not (k + i) h)
      set_from (e ∷ es) k zero h = go (test e.0) h
        where
          go : (b : Bool) → cond b (Some k) (at (k + 1) es) ≡ Some (k + zero) → (e.0, w) ∷ es ≡ cond b ((e.0, w) ∷ es) (e ∷ set_value test es w)
          go true h = refl
          go false h = absurd (let q = at_least es (k + 1) (k + zero) h in omega arith)
      set_from (e ∷ es) k (suc i) h = go (test e.0) h (set_from es (k + 1) i)
        where
          go : (b : Bool) → cond b (Some k) (at (k + 1) es) ≡ Some (k + suc i) → (at (k + 1) es ≡ Some (k + 1 + i) → set es i ((get_or es i d).0, w) ≡ set_value test es w)
              → e ∷ set es i ((get_or es i d).0, w) ≡ cond b ((e.0, w) ∷ es) (e ∷ set_value test es w)
          go true h more = absurd (let q = some_is k (k + suc i) h in omega arith)
          go false h more = ap (λ l. e ∷ l) (more (h ∙ some_of (k + suc i) (k + 1 + i) (omega arith)))

      -- a value written at the index is that of the key
      pub set_at : (es : List (K × X)) (i : ℕ) → at 0 es ≡ Some i → set es i ((get_or es i d).0, w) ≡ set_value test es w
      set_at es i h = set_from es 0 i (h ∙ some_of i (0 + i) (omega arith))

  removed_from : (es : List (K × X)) (k i : ℕ) → at k es ≡ Some (k + i) → remove es i ≡ remove_entry test es
  removed_from [] k i h = absurd (none_is_not (k + i) h)
  removed_from (e ∷ es) k zero h = go (test e.0) h
    where
      go : (b : Bool) → cond b (Some k) (at (k + 1) es) ≡ Some (k + zero) → es ≡ cond b es (e ∷ remove_entry test es)
      go true h = refl
      go false h = absurd (let q = at_least es (k + 1) (k + zero) h in omega arith)
  removed_from (e ∷ es) k (suc i) h = go (test e.0) h (removed_from es (k + 1) i)
    where
      go : (b : Bool) → cond b (Some k) (at (k + 1) es) ≡ Some (k + suc i) → (at (k + 1) es ≡ Some (k + 1 + i) → remove es i ≡ remove_entry test es)
          → e ∷ remove es i ≡ cond b es (e ∷ remove_entry test es)
      go true h more = absurd (let q = some_is k (k + suc i) h in omega arith)
      go false h more = ap (λ l. e ∷ l) (more (h ∙ some_of (k + suc i) (k + 1 + i) (omega arith)))

  -- the entry removed at the index is that of the key
  pub removed_at : (es : List (K × X)) (i : ℕ) → at 0 es ≡ Some i → remove es i ≡ remove_entry test es
  removed_at es i h = removed_from es 0 i (h ∙ some_of i (0 + i) (omega arith))

  unremoved_from : (es : List (K × X)) (k : ℕ) → at k es ≡ None → remove_entry test es ≡ es
  unremoved_from [] k h = refl
  unremoved_from (e ∷ es) k h = go (test e.0) h (unremoved_from es (k + 1))
    where
      go : (b : Bool) → cond b (Some k) (at (k + 1) es) ≡ None → (at (k + 1) es ≡ None → remove_entry test es ≡ es) → cond b es (e ∷ remove_entry test es) ≡ e ∷ es
      go true h more = absurd (some_is_not k h)
      go false h more = ap (λ l. e ∷ l) (more h)

  -- where there is no index, nothing is removed
  pub unremoved : (es : List (K × X)) → at 0 es ≡ None → remove_entry test es ≡ es
  unremoved es h = unremoved_from es 0 h

-- ---- the same of a slice of the entries

module _ {K X : Type 0} (test : K → Bool) (es ds : List (K × X)) (same : ds ≡ es) where
  module _ (i : ℕ) (here : Some i ≡ position_from (λ e. test e.0) 0 ds) where
    there : position_from (λ e. test e.0) 0 es ≡ Some i
    there = sym (rw same at here)

    -- the value that is shown is the one of the key
    pub shown_at : (x : K × X) → x ≡ get_or es i x → Some x.1 ≡ lookup test es
    shown_at x is = ap (λ (e : K × X). let o : Option X = Some e.1 in o) is ∙ sym (found_at test x es i there)

    -- the value that is written comes to the key
    pub written_at : (x y : K × X) → x ≡ get_or es i x → y.0 ≡ x.0 → set es i y ≡ set_value test es y.1
    written_at x y is key = let whole : y ≡ ((get_or es i x).0, y.1) = rw (← is, ← key) refl in ap (λ z. set es i z) whole ∙ set_at test x y.1 es i there

    -- the entry that is removed is that of the key
    pub dropped_at : remove es i ≡ remove_entry test es
    dropped_at = removed_at test es i there

  module _ (none : None ≡ position_from (λ e. test e.0) 0 ds) where
    nowhere : position_from (λ e. test e.0) 0 es ≡ None
    nowhere = sym (rw same at none)

    -- nothing is found
    pub not_shown : None ≡ lookup test es
    not_shown = sym (none_found test es nowhere)

    -- nothing is removed
    pub not_dropped : es ≡ remove_entry test es
    not_dropped = sym (unremoved test es nowhere)
