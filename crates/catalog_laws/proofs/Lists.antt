-- Members of lists, and the first of a kind that is changed.
use Rattle.std.proofs.Common.{◌≡◌, zero, suc, Bool, true, false, cond, List, [], ◌∷◌, filter, Contains, ◌⊎◌, inl, inr, ⊎_elim, refl, sym, ap, ◌∙◌, subst, arith}
use Rattle.std.proofs.lemmas.Bool.{and_parts, or_cases, or_left, or_right}
use Rattle.std.proofs.lemmas.List.Elements.{All-contains, All-contains_itself, All-filter, All-weaker, filter_passes}
use Rattle.std.specs.List.{list_all, list_any, All}

-- ---- members

module _ {X : Type 0} where
  pub here : (x : X) (xs : List X) → Contains (x ∷ xs) x
  here x xs = (zero, omega arith, refl)

  pub later : (y x : X) (xs : List X) → Contains xs x → Contains (y ∷ xs) x
  later y x xs h = (suc h.0, omega (arith, h.1), h.2)

  -- the first, or one of the others
  pub first_or_later : (y x : X) (xs : List X) → Contains (y ∷ xs) x → (y ≡ x) ⊎ Contains xs x
  first_or_later y x xs (zero, below, is) = inl is
  first_or_later y x xs (suc k, below, is) = inr (k, omega (arith, below), is)

  pub none_among : (x : X) → Contains [] x → ⊥
  none_among x h = omega (arith, h.1)

  -- ---- those that pass a test

  module _ (p : X → Bool) where
    pub some_passes : (xs : List X) → list_any p xs ≡ true → (x : X) × Contains xs x × (p x ≡ true)
    some_passes [] h = absurd (cc)
    some_passes (y ∷ ys) h = ⊎_elim (λ a. (y, here y ys, a)) (λ b. let more = some_passes ys b in (more.0, later y more.0 ys more.1, more.2)) (or_cases (p y) (list_any p ys) h)

    pub passes_some : (xs : List X) (x : X) → Contains xs x → p x ≡ true → list_any p xs ≡ true
    passes_some [] x h e = absurd (none_among x h)
    passes_some (y ∷ ys) x h e = ⊎_elim (λ a. or_left (p y) _ (ap p a ∙ e)) (λ b. or_right (p y) _ (passes_some ys x b e)) (first_or_later y x ys h)

    -- those that a filter keeps
    pub was_among : (xs : List X) (x : X) → Contains (filter p xs) x → Contains xs x × (p x ≡ true)
    was_among xs x h = (All-contains (Contains xs) (filter p xs) x (All-filter p (Contains xs) xs (All-contains_itself xs)) h, All-contains (λ x. p x ≡ true) (filter p xs) x (filter_passes p xs) h)

    pub stays_among : (xs : List X) (x : X) → Contains xs x → p x ≡ true → Contains (filter p xs) x
    stays_among [] x h e = h
    stays_among (y ∷ ys) x h e = ⊎_elim
        (λ a. let t : p y ≡ true = ap p a ∙ e in rw t (subst (λ (z : X). Contains (y ∷ filter p ys) z) a (here y (filter p ys))))
        (λ b. after (p y) (stays_among ys x b e))
        (first_or_later y x ys h)
      where
        after : (b : Bool) → Contains (filter p ys) x → Contains (cond b (y ∷ filter p ys) (filter p ys)) x
        after true h = later y x (filter p ys) h
        after false h = h

-- ---- what holds of each

pub each : {X : Type 0} (P : X → Type 0) (xs : List X) → ((x : X) → Contains xs x → P x) → All P xs
each P xs h = All-weaker (Contains xs) P h xs (All-contains_itself xs)

pub all_pass : {X : Type 0} (p : X → Bool) (xs : List X) → list_all p xs ≡ true → (x : X) → Contains xs x → p x ≡ true
all_pass p [] h x among = absurd (none_among x among)
all_pass p (y ∷ ys) h x among = let both = and_parts (p y) (list_all p ys) h in ⊎_elim (λ a. ap p (sym a) ∙ both.0) (λ a. all_pass p ys both.1 x a) (first_or_later y x ys among)
