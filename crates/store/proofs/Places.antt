-- An entry changed at its index.
use Rattle.std.proofs.Common.{◌≡◌, ℕ, zero, suc, ◌+◌, Bool, true, false, cond, List, [], ◌∷◌, map, set, get_or, find, Some, None, refl, ap, ◌∙◌, arith}
use Rattle.std.specs.List.{position_from}
use Rattle.memory.proofs.Cases.{some_is, none_is_not, some_is_not}
use Rattle.catalog.proofs.Positions.{some_of}
use Rattle.row_objects.proofs.Marks.{at_least}
use Rattle.catalog.specs.Checks.{first_changed}

module _ {E : Type 0} (p : E → Bool) where
  -- no entry, so that nothing changes and nothing is found
  pub none_from : (f : E → E) (es : List E) (k : ℕ) → position_from p k es ≡ None → (first_changed p f es ≡ es) × (find p es ≡ None)
  none_from f [] k h = (refl, refl)
  none_from f (e ∷ es) k h = go (p e) h (none_from f es (k + 1))
    where
      go : (b : Bool) → cond b (Some k) (position_from p (k + 1) es) ≡ None → (position_from p (k + 1) es ≡ None → (first_changed p f es ≡ es) × (find p es ≡ None))
          → (cond b (f e ∷ es) (e ∷ first_changed p f es) ≡ e ∷ es) × (cond b (Some e) (find p es) ≡ None)
      go true h more = absurd (some_is_not k h)
      go false h more = (ap (λ l. e ∷ l) (more h).0, (more h).1)

  pub none_found : (es : List E) → position_from p 0 es ≡ None → find p es ≡ None
  none_found es h = (none_from (λ e. e) es 0 h).1

  module _ {X : Type 0} (v : X → E) (d : X) where
    found_from : (xs : List X) (k i : ℕ) → position_from p k (map v xs) ≡ Some (k + i) → find p (map v xs) ≡ Some (v (get_or xs i d))
    found_from [] k i h = absurd (none_is_not (k + i) h)
    found_from (x ∷ xs) k zero h = go (p (v x)) h
      where
        go : (b : Bool) → cond b (Some k) (position_from p (k + 1) (map v xs)) ≡ Some (k + zero) → cond b (Some (v x)) (find p (map v xs)) ≡ Some (v x)
        go true h = refl
        go false h = absurd (let q = at_least p (map v xs) (k + 1) (k + zero) h in omega arith)
    found_from (x ∷ xs) k (suc i) h = go (p (v x)) h (found_from xs (k + 1) i)
      where
        go : (b : Bool) → cond b (Some k) (position_from p (k + 1) (map v xs)) ≡ Some (k + suc i)
            → (position_from p (k + 1) (map v xs) ≡ Some (k + 1 + i) → find p (map v xs) ≡ Some (v (get_or xs i d)))
            → cond b (Some (v x)) (find p (map v xs)) ≡ Some (v (get_or xs i d))
        go true h more = absurd (let q = some_is k (k + suc i) h in omega arith)
        go false h more = more (h ∙ some_of (k + suc i) (k + 1 + i) (omega arith))

    -- the entry at the index is the one that is found
    pub found_at : (xs : List X) (i : ℕ) → position_from p 0 (map v xs) ≡ Some i → find p (map v xs) ≡ Some (v (get_or xs i d))
    found_at xs i h = found_from xs 0 i (h ∙ some_of i (0 + i) (omega arith))

    module _ (f : E → E) (y : X) where
      set_from : (xs : List X) (k i : ℕ) → position_from p k (map v xs) ≡ Some (k + i) → v y ≡ f (v (get_or xs i d)) → map v (set xs i y) ≡ first_changed p f (map v xs)
      set_from [] k i h is = absurd (none_is_not (k + i) h)
      set_from (x ∷ xs) k zero h is = go (p (v x)) h
        where
          go : (b : Bool) → cond b (Some k) (position_from p (k + 1) (map v xs)) ≡ Some (k + zero) → v y ∷ map v xs ≡ cond b (f (v x) ∷ map v xs) (v x ∷ first_changed p f (map v xs))
          go true h = ap (λ e. e ∷ map v xs) is
          go false h = absurd (let q = at_least p (map v xs) (k + 1) (k + zero) h in omega arith)
      set_from (x ∷ xs) k (suc i) h is = go (p (v x)) h (λ h. set_from xs (k + 1) i h is)
        where
          go : (b : Bool) → cond b (Some k) (position_from p (k + 1) (map v xs)) ≡ Some (k + suc i)
              → (position_from p (k + 1) (map v xs) ≡ Some (k + 1 + i) → map v (set xs i y) ≡ first_changed p f (map v xs))
              → v x ∷ map v (set xs i y) ≡ cond b (f (v x) ∷ map v xs) (v x ∷ first_changed p f (map v xs))
          go true h more = absurd (let q = some_is k (k + suc i) h in omega arith)
          go false h more = ap (λ l. v x ∷ l) (more (h ∙ some_of (k + suc i) (k + 1 + i) (omega arith)))

      -- the entry at the index is the one that changes
      pub set_at : (xs : List X) (i : ℕ) → position_from p 0 (map v xs) ≡ Some i → v y ≡ f (v (get_or xs i d)) → map v (set xs i y) ≡ first_changed p f (map v xs)
      set_at xs i h is = set_from xs 0 i (h ∙ some_of i (0 + i) (omega arith)) is
