-- The best steps of left joined entries may follow, and no other steps that may are better.
use Rattle.std.proofs.Common.{◌≡◌, ◌∙◌, ℕ, zero, suc, ◌+◌, ◌-◌, ◌<◌, ◌≤◌, ◌⊎◌, inl, inr, Bool, true, false, ◌&&◌, ◌==◌, nat_lt, List, [], ◌∷◌, ◌++◌, length, Option, Some, None, refl, sym, ap, ap₂, subst, arith, length-append, eqb-true, take, drop, get_or}
use Rattle.std.specs.Prelude.{if◌then◌else◌, slice_get}
use Rattle.std.specs.List.{range_with_len}
use Rattle.std.proofs.Math.Seq.{take-length}
use Rattle.std.proofs.lemmas.Bool.{and_from, and_parts, cases_lt, eq-eqb, le-ltb, lt-ltb}
use Rattle.std.proofs.lemmas.Grind.{flat_map-append}
use Rattle.std.proofs.lemmas.List.{append_assoc}
use Rattle.std.proofs.lemmas.Option.{slice_get_within}
use Rattle.expr.specs.declared.code.Access.{Access}
use Rattle.expr.specs.declared.code.Access.TheVariants.{Full, Index, Range}
use Rattle.expr.specs.declared.code.CodeStep.{CodeStep}
use Rattle.expr.specs.declared.code.Method.{Method}
use Rattle.expr.specs.declared.code.Method.TheVariants.{Nested, Hash, Merge}
use Rattle.expr.specs.Bound.{BoundExpr}
use Rattle.expr.specs.Codes.{access_numbers, method_numbers, step_numbers}
use Rattle.expr.specs.Conjuncts.{conjuncts_of}
use Rattle.predicates.specs.Numbered.{numbered}
use Rattle.stats.specs.Card.{Selection, rows_at}
use Rattle.stats.specs.Statistics.{Stats}
use Rattle.trailcheck.specs.Admissible.{are_left_steps, equates, is_full, is_left_method, is_left_step, is_some_and}
use Rattle.trailcheck.specs.Equalities.{first_equality, is_equality}
use Rattle.left_tails.specs.Best.{IsBestTail, best_left_step, best_tail, better_method}
use Rattle.left_tails.specs.Plans.{IsNoLater, IsNoWorse, numbers}
use Rattle.left_tails.specs.Tails.{left_join_cost, size_with_left, tail_cost}
use Rattle.left_tails.proofs.Before.{IsNoMore, no_later_after, no_more_itself}
use Rattle.trailcheck.proofs.FirstNumbers.{first_least, first_passes}

-- ---- numbers of steps

-- as many numbers for each step
pub access_many : (a : Access) → length (access_numbers a) ≡ 3
access_many Full = refl
access_many (Index column) = refl
access_many (Range column bound) = refl

method_many : (m : Method) → length (method_numbers m) ≡ 2
method_many Nested = refl
method_many (Hash conjunct) = refl
method_many (Merge conjunct) = refl

pub step_many : (c : CodeStep) → length (step_numbers c) ≡ 6
step_many c = let l = length-append (access_numbers c.access) (method_numbers c.method) in let a = access_many c.access in let m = method_many c.method in omega (arith, l, a, m)

-- of as many steps
numbers_many : (ss ts : List CodeStep) → length ss ≡ length ts → length (numbers ss) ≡ length (numbers ts)
numbers_many [] [] e = refl
numbers_many [] (t ∷ ts) e = absurd (omega (arith, e))
numbers_many (s ∷ ss) [] e = absurd (omega (arith, e))
numbers_many (s ∷ ss) (t ∷ ts) e =
    let rest = numbers_many ss ts (omega (arith, e)) in
    let l = length-append (step_numbers s) (numbers ss) in
    let m = length-append (step_numbers t) (numbers ts) in
    let a = step_many s in
    let b = step_many t in
    omega (arith, rest, l, m, a, b)

-- ---- one after another

-- of as many numbers
no_later_with : (xs ys ts us : List ℕ) → length xs ≡ length ys → IsNoLater xs ys → IsNoLater ts us → IsNoLater (xs ++ ts) (ys ++ us)
no_later_with [] [] ts us e h k = k
no_later_with [] (y ∷ ys) ts us e h k = absurd (omega (arith, e))
no_later_with (x ∷ xs) [] ts us e h k = absurd h
no_later_with (x ∷ xs) (y ∷ ys) ts us e (inl less) k = inl less
no_later_with (x ∷ xs) (y ∷ ys) ts us e (inr h) k = inr (h.0, no_later_with xs ys ts us (omega (arith, e)) h.1 k)

no_more_with : (c d e f : ℕ) (xs ys ts us : List ℕ) → length xs ≡ length ys → IsNoMore c xs d ys → IsNoMore e ts f us → IsNoMore (c + e) (xs ++ ts) (d + f) (ys ++ us)
no_more_with c d e f xs ys ts us many (inl less) (inl lower) = inl (omega (arith, less, lower))
no_more_with c d e f xs ys ts us many (inl less) (inr same) = inl (omega (arith, less, same.0))
no_more_with c d e f xs ys ts us many (inr same) (inl lower) = inl (omega (arith, same.0, lower))
no_more_with c d e f xs ys ts us many (inr same) (inr alike) = inr (ap₂ ◌+◌ same.0 alike.0, no_later_with xs ys ts us many same.1 alike.1)

-- steps that are no worse than as many others, and then such as are no worse than others
pub no_worse_with : (c d e f : ℕ) (ss ts us vs : List CodeStep) → length ss ≡ length ts → IsNoWorse (c, ss) (d, ts) → IsNoWorse (e, us) (f, vs) → IsNoWorse (c + e, ss ++ us) (d + f, ts ++ vs)
no_worse_with c d e f ss ts us vs many h k =
    subst (λ ns. IsNoMore (c + e) ns (d + f) (numbers (ts ++ vs))) (sym (flat_map-append step_numbers ss us))
    (subst (λ ns. IsNoMore (c + e) (numbers ss ++ numbers us) (d + f) ns) (sym (flat_map-append step_numbers ts vs)) (no_more_with c d e f (numbers ss) (numbers ts) (numbers us) (numbers vs) (numbers_many ss ts many) h k))

-- ---- one left joined entry

-- the number of a conjunct is one of so many
pub numbered_within : (test : BoundExpr → Bool) (es : List BoundExpr) (k : ℕ) → is_some_and test (numbered es k) ≡ true → (1 ≤ k) × (k < 1 + length es)
numbered_within test es zero h = absurd (cc)
numbered_within test es (suc k) h = go (slice_get es k) refl h
  where
    go : (o : Option BoundExpr) → slice_get es k ≡ o → is_some_and test o ≡ true → (1 ≤ suc k) × (suc k < 1 + length es)
    go None e passes = absurd (cc)
    go (Some x) e passes = let within = slice_get_within es k x e in (omega arith, omega (arith, within))

module _ (of : List Stats) (v i : ℕ) (on : BoundExpr) where
  better_may : (o : Option ℕ) → ((k : ℕ) → o ≡ Some k → is_equality i on k ≡ true) → is_left_method i on (better_method of v i o) ≡ true
  better_may None h = refl
  better_may (Some k) h = go (nat_lt (left_join_cost of v i (Hash k)) (left_join_cost of v i Nested))
    where
      go : (b : Bool) → is_left_method i on (if b then Hash k else Nested) ≡ true
      go true = h k refl
      go false = refl

  pub best_may : is_left_step i on (best_left_step of v i on) ≡ true
  best_may = and_from (suc i == suc i) (is_left_method i on (better_method of v i (first_equality i on))) (eq-eqb (suc i) (suc i) refl) (better_may (first_equality i on) (λ k is. first_passes (is_equality i on) 1 (length (conjuncts_of on)) k is))

  -- joining by the one method costs less, or as much and its numbers are no later
  abbrev NoDearer : Method → Method → Type 0
  NoDearer m n = IsNoMore (left_join_cost of v i m) (method_numbers m) (left_join_cost of v i n) (method_numbers n)

  best_nested : (o : Option ℕ) → NoDearer (better_method of v i o) Nested
  best_nested None = no_more_itself (left_join_cost of v i Nested) (method_numbers Nested)
  best_nested (Some k) = go (cases_lt (left_join_cost of v i (Hash k)) (left_join_cost of v i Nested))
    where
      go : (left_join_cost of v i (Hash k) < left_join_cost of v i Nested) ⊎ (left_join_cost of v i Nested ≤ left_join_cost of v i (Hash k)) → NoDearer (better_method of v i (Some k)) Nested
      go (inl less) = rw (lt-ltb (left_join_cost of v i (Hash k)) (left_join_cost of v i Nested) less) (inl less)
      go (inr more) = rw (le-ltb (left_join_cost of v i (Hash k)) (left_join_cost of v i Nested) more) (no_more_itself (left_join_cost of v i Nested) (method_numbers Nested))

  best_hash : (k n : ℕ) → k ≤ n → NoDearer (better_method of v i (Some k)) (Hash n)
  best_hash k n le = go (cases_lt (left_join_cost of v i (Hash k)) (left_join_cost of v i Nested))
    where
      lesser : (k < n) ⊎ (n ≤ k) → IsNoLater (k ∷ []) (n ∷ [])
      lesser (inl less) = inl less
      lesser (inr more) = inr (omega arith, tt)

      nested : (left_join_cost of v i Nested < left_join_cost of v i (Hash k)) ⊎ (left_join_cost of v i (Hash k) ≤ left_join_cost of v i Nested) → left_join_cost of v i Nested ≤ left_join_cost of v i (Hash k) → NoDearer Nested (Hash n)
      nested (inl less) more = inl less
      nested (inr same) more = inr (let e : left_join_cost of v i Nested ≡ left_join_cost of v i (Hash k) = omega (arith, same, more) in e, inl (omega arith))

      go : (left_join_cost of v i (Hash k) < left_join_cost of v i Nested) ⊎ (left_join_cost of v i Nested ≤ left_join_cost of v i (Hash k)) → NoDearer (better_method of v i (Some k)) (Hash n)
      go (inl less) = rw (lt-ltb (left_join_cost of v i (Hash k)) (left_join_cost of v i Nested) less) (inr (refl, inr (refl, lesser (cases_lt k n))))
      go (inr more) = rw (le-ltb (left_join_cost of v i (Hash k)) (left_join_cost of v i Nested) more) (nested (cases_lt (left_join_cost of v i Nested) (left_join_cost of v i (Hash k))) more)

  best_method : (m : Method) → is_left_method i on m ≡ true → NoDearer (better_method of v i (first_equality i on)) m
  best_method Nested h = best_nested (first_equality i on)
  best_method (Hash n) h =
      let within = numbered_within (equates (range_with_len 0 i) i) (conjuncts_of on) n h in
      let f = first_least (is_equality i on) 1 (length (conjuncts_of on)) n within.0 within.1 h in
      subst (λ o. NoDearer (better_method of v i o) (Hash n)) (sym f.1) (best_hash f.0 n f.2)
  best_method (Merge n) h = absurd (cc)

  -- the same numbers before, and the same cost after
  no_dearer_step : (m n : Method) → NoDearer m n → IsNoMore (left_join_cost of v i m + rows_at of i) ((suc i) ∷ (access_numbers Full ++ method_numbers m)) (left_join_cost of v i n + rows_at of i) ((suc i) ∷ (access_numbers Full ++ method_numbers n))
  no_dearer_step m n (inl less) = inl (omega (arith, less))
  no_dearer_step m n (inr same) = inr (ap (λ c. c + rows_at of i) same.0, no_later_after ((suc i) ∷ access_numbers Full) (method_numbers m) (method_numbers n) same.1)

  full_is : (a : Access) → is_full a ≡ true → Full ≡ a
  full_is Full h = refl
  full_is (Index column) h = absurd (cc)
  full_is (Range column bound) h = absurd (cc)

  pub best_step : (s : CodeStep) → is_left_step i on s ≡ true
      → IsNoMore (left_join_cost of v i (best_left_step of v i on).method + rows_at of i) (step_numbers (best_left_step of v i on)) (left_join_cost of v i s.method + rows_at of i) (step_numbers s)
  best_step s h =
      let parts = and_parts (s.entry == suc i) (is_full s.access && is_left_method i on s.method) h in
      let ways = and_parts (is_full s.access) (is_left_method i on s.method) parts.1 in
      let entry : suc i ≡ s.entry = sym (eqb-true s.entry (suc i) parts.0) in
      let best = better_method of v i (first_equality i on) in
      subst (λ (n : ℕ). IsNoMore (left_join_cost of v i best + rows_at of i) ((suc i) ∷ (access_numbers Full ++ method_numbers best)) (left_join_cost of v i s.method + rows_at of i) (n ∷ (access_numbers s.access ++ method_numbers s.method))) entry
      (subst (λ (a : Access). IsNoMore (left_join_cost of v i best + rows_at of i) ((suc i) ∷ (access_numbers Full ++ method_numbers best)) (left_join_cost of v i s.method + rows_at of i) ((suc i) ∷ (access_numbers a ++ method_numbers s.method))) (full_is s.access ways.0)
      (no_dearer_step best s.method (best_method s.method ways.1)))

-- ---- all of them

module _ (of : List Stats) (conditions : List Selection) where
  pub tail_may : (v i : ℕ) (ons : List BoundExpr) → are_left_steps i ons (best_tail of conditions v i ons) ≡ true
  tail_may v i [] = refl
  tail_may v i (on ∷ ons) =
      and_from (is_left_step i on (best_left_step of v i on)) (are_left_steps (suc i) ons (best_tail of conditions (size_with_left of conditions v i on) (suc i) ons)) (best_may of v i on)
      (tail_may (size_with_left of conditions v i on) (suc i) ons)

  pub tail_best : (v i : ℕ) (ons : List BoundExpr) → IsBestTail of conditions v i ons (best_tail of conditions v i ons)
  tail_best v i [] [] h = inr (refl, tt)
  tail_best v i [] (s ∷ ss) h = absurd (cc)
  tail_best v i (on ∷ ons) [] h = absurd (cc)
  tail_best v i (on ∷ ons) (s ∷ ss) h =
      let parts = and_parts (is_left_step i on s) (are_left_steps (suc i) ons ss) h in
      let size = size_with_left of conditions v i on in
      let best = best_left_step of v i on in
      let rest = best_tail of conditions size (suc i) ons in
      no_more_with (left_join_cost of v i best.method + rows_at of i) (left_join_cost of v i s.method + rows_at of i) (tail_cost of conditions size (suc i) ons rest) (tail_cost of conditions size (suc i) ons ss) (step_numbers best) (step_numbers s) (numbers rest) (numbers ss)
      (step_many best ∙ sym (step_many s)) (best_step of v i on s parts.0) (tail_best size (suc i) ons ss parts.1)

  -- the best step of the first, and then the best ones of the others
  pub pushed : (v i size next : ℕ) (ons : List BoundExpr) (on : BoundExpr) (old mid new : List CodeStep) (s : CodeStep) → 0 < length ons → on ≡ get_or ons 0 on → s ≡ best_left_step of v i on → mid ≡ old ++ s ∷ [] → size ≡ size_with_left of conditions v i on → next ≡ suc i
      → new ≡ mid ++ best_tail of conditions size next (take (length ons - 1) (drop 1 ons)) → new ≡ old ++ best_tail of conditions v i ons
  pushed v i size next [] on old mid new s some first step push sizes index rest = absurd (omega arith)
  pushed v i size next (o ∷ ons) on old mid new s some first step push sizes index rest =
      let same : on ≡ o = first in
      let many : length (o ∷ ons) - 1 ≡ length ons = omega arith in
      rest
      ∙ ap (λ os. mid ++ best_tail of conditions size next os) (ap (λ n. take n ons) many ∙ take-length ons)
      ∙ ap (λ ss. ss ++ best_tail of conditions size next ons) push
      ∙ append_assoc old (s ∷ []) (best_tail of conditions size next ons)
      ∙ ap (λ (t : CodeStep). old ++ t ∷ best_tail of conditions size next ons) (step ∙ ap (best_left_step of v i) same)
      ∙ ap (λ n. old ++ best_left_step of v i o ∷ best_tail of conditions n next ons) (sizes ∙ ap (size_with_left of conditions v i) same)
      ∙ ap (λ n. old ++ best_left_step of v i o ∷ best_tail of conditions (size_with_left of conditions v i o) n ons) index
