-- Each setting has a code that a plan may have: full scans and nested joins, of each entry as soon as it may follow.
use Rattle.std.proofs.Common.{◌≡◌, refl, ap, ℕ, zero, suc, ◌+◌, ◌-◌, ◌<◌, ◌≤◌, ◌⊎◌, inl, inr, Bool, true, false, ◌&&◌, ◌||◌, not, nat_le, List, [], ◌∷◌, ◌++◌, length, arith, zero-add, length-append}
use Rattle.std.specs.List.{list_any, range_with_len}
use Rattle.std.proofs.lemmas.Bool.{cases_lt, le-leb, not_from_false, or_left, or_right}
use Rattle.expr.specs.declared.code.Access.TheVariants.{Full}
use Rattle.expr.specs.declared.code.Method.TheVariants.{Nested}
use Rattle.expr.specs.declared.code.CodeStep.{CodeStep}
use Rattle.predicates.proofs.Movables.{and_left, and_right}
use Rattle.predicates.proofs.Keeping.{both}
use Rattle.trailcheck.specs.Admissible.{is_joined, is_waiting, some_waiting, is_connected, are_allowed_steps}
use Rattle.trailcheck.specs.Entries.{is_among}
use Rattle.trailcheck.specs.Settings.{Setting, inner_count}
use Rattle.joindp.proofs.PlacedSets.{many_where_all}

-- ---- a number that passes a test

module _ (p : ℕ → Bool) where
  -- where some of so many from a on passes, there is one
  number_found : (a n : ℕ) → list_any p (range_with_len a n) ≡ true → (i : ℕ) × (i < a + n) × (p i ≡ true)
  number_found a zero h = absurd (cc)
  number_found a (suc n) h = go (p a) refl h (number_found (a + 1) n)
    where
      go : (b : Bool) → p a ≡ b → b || list_any p (range_with_len (a + 1) n) ≡ true → (list_any p (range_with_len (a + 1) n) ≡ true → (i : ℕ) × (i < a + 1 + n) × (p i ≡ true)) → (i : ℕ) × (i < a + suc n) × (p i ≡ true)
      go true e k rest = (a, omega arith, e)
      go false e k rest = let f = rest k in (f.0, omega (arith, f.1), f.2)

  -- the first so many all pass, or one does not
  all_or_one : (n : ℕ) → ((i : ℕ) → i < n → p i ≡ true) ⊎ ((i : ℕ) × (i < n) × (p i ≡ false))
  all_or_one zero = inl (λ i h. absurd (omega arith))
  all_or_one (suc n) = go (all_or_one n) (p n) refl
    where
      each : ((i : ℕ) → i < n → p i ≡ true) → p n ≡ true → (i : ℕ) → (i < n) ⊎ (n ≤ i) → i < suc n → p i ≡ true
      each all e i (inl less) h = all i less
      each all e i (inr more) h = let same : i ≡ n = omega arith in rw same e

      go : ((i : ℕ) → i < n → p i ≡ true) ⊎ ((i : ℕ) × (i < n) × (p i ≡ false)) → (b : Bool) → p n ≡ b → ((i : ℕ) → i < suc n → p i ≡ true) ⊎ ((i : ℕ) × (i < suc n) × (p i ≡ false))
      go (inr f) b e = inr (f.0, omega (arith, f.1), f.2)
      go (inl all) false e = inr (n, omega arith, e)
      go (inl all) true e = inl (λ i h. each all e i (cases_lt i n) h)

-- ---- the steps

-- the full scan and the nested join of the entry of that index
abbrev plain_step : ℕ → CodeStep
plain_step i = record { entry = i + 1; access = Full; method = Nested }

module _ (at : Setting) where
  -- the entry has no place yet, and may have the next one
  abbrev may_follow : (placed : List ℕ) → (entry : ℕ) → Bool
  may_follow placed i = not (is_among placed i) && is_connected at placed i

  -- where fewer are placed than there are, one of them may follow
  some_follows : (placed : List ℕ) → length placed < inner_count at → (i : ℕ) × (i < inner_count at) × (may_follow placed i ≡ true)
  some_follows placed fewer = go (some_waiting at placed) refl
    where
      -- none waits that is joined to the placed ones
      alone : some_waiting at placed ≡ false → ((i : ℕ) → i < inner_count at → is_among placed i ≡ true) ⊎ ((i : ℕ) × (i < inner_count at) × (is_among placed i ≡ false)) → (i : ℕ) × (i < inner_count at) × (may_follow placed i ≡ true)
      alone e (inl all) = let m = many_where_all (inner_count at) placed all in absurd (omega (arith, m, fewer))
      alone e (inr f) = (
        f.0,
        f.1,
        both (not (is_among placed f.0)) (is_connected at placed f.0) (not_from_false (is_among placed f.0) f.2) (or_right (is_joined at placed f.0) (not (some_waiting at placed)) (not_from_false (some_waiting at placed) e)),
      )

      go : (b : Bool) → some_waiting at placed ≡ b → (i : ℕ) × (i < inner_count at) × (may_follow placed i ≡ true)
      go true e =
          let f = number_found (is_waiting at placed) 0 (inner_count at) e in (
            f.0,
            omega (arith, f.1),
            both (not (is_among placed f.0)) (is_connected at placed f.0) (and_left (not (is_among placed f.0)) (is_joined at placed f.0) f.2)
                (or_left (is_joined at placed f.0) (not (some_waiting at placed)) (and_right (not (is_among placed f.0)) (is_joined at placed f.0) f.2)),
          )
      go false e = alone e (all_or_one (is_among placed) (inner_count at))

  -- its plain step before others
  allowed : (placed : List ℕ) (i : ℕ) → i < inner_count at → may_follow placed i ≡ true → (ss : List CodeStep) → are_allowed_steps at (placed ++ i ∷ []) ss ≡ true → are_allowed_steps at placed (plain_step i ∷ ss) ≡ true
  allowed placed i below may ss rest =
      let e : i + 1 - 1 ≡ i = omega arith in
      let there = both (nat_le 1 (i + 1)) (nat_le (i + 1) (inner_count at)) (le-leb 1 (i + 1) (omega arith)) (le-leb (i + 1) (inner_count at) (omega arith)) in
      let next = both (nat_le 1 (i + 1) && nat_le (i + 1) (inner_count at)) (not (is_among placed i)) there (and_left (not (is_among placed i)) (is_connected at placed i) may) in
      let order = both ((nat_le 1 (i + 1) && nat_le (i + 1) (inner_count at)) && not (is_among placed i)) (is_connected at placed i) next (and_right (not (is_among placed i)) (is_connected at placed i) may) in
      let step = both (((nat_le 1 (i + 1) && nat_le (i + 1) (inner_count at)) && not (is_among placed i)) && is_connected at placed i) true order refl in
      rw e (both ((((nat_le 1 (i + 1) && nat_le (i + 1) (inner_count at)) && not (is_among placed i)) && is_connected at placed i) && true) (are_allowed_steps at (placed ++ i ∷ []) ss) step rest)

  -- so many steps after those that placed the entries
  abbrev Steps : (n : ℕ) → (placed : List ℕ) → Type 0
  Steps n placed = (ss : List CodeStep) × (length ss ≡ n) × (are_allowed_steps at placed ss ≡ true)

  one_more : (n : ℕ) (placed : List ℕ) (i : ℕ) → i < inner_count at → may_follow placed i ≡ true → Steps n (placed ++ i ∷ []) → Steps (suc n) placed
  one_more n placed i below may (ss, many, rest) = (plain_step i ∷ ss, ap suc many, allowed placed i below may ss rest)

  some_steps_after : (n : ℕ) (placed : List ℕ) → length placed + n ≡ inner_count at → Steps n placed
  some_steps_after zero placed all = ([], refl, refl)
  some_steps_after (suc n) placed all =
      let f = some_follows placed (omega arith) in
      let l = length-append placed (f.0 ∷ []) in
      one_more n placed f.0 f.1 f.2 (some_steps_after n (placed ++ f.0 ∷ []) (omega (arith, l, all)))

  -- steps that a code may have where no condition is never true
  pub some_steps : Steps (inner_count at) []
  some_steps = some_steps_after (inner_count at) [] (zero-add (inner_count at))
