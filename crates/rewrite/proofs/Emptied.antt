-- The empty term, where a condition is never true.
use Rattle.std.proofs.Common.{◌≡◌, ◌∙◌, refl, sym, ap, ℕ, zero, suc, ◌+◌, ◌-◌, ◌<◌, ◌≤◌, ◌⊎◌, inl, inr, Bool, true, false, ◌||◌, cond, ◌==◌, List, [], ◌∷◌, ◌++◌, length, filter, Ok, if◌then◌else◌, arith}
use Rattle.std.specs.List.{list_any, range_with_len}
use Rattle.std.proofs.lemmas.Bool.{cases_lt, eq-eqb, or_left, or_right}
use Rattle.memory.specs.Results.{and_then}
use Rattle.expr.specs.Bound.{BoundExpr}
use Rattle.predicates.specs.Equalities.{is_never_true}
use Rattle.row_terms.specs.Terms.{Term, Filtered, LeftJoined, Empty, covers}
use Rattle.row_terms.specs.Written.{all_joins, guarded_entry, joins, filters, left_joins}
use Rattle.algebra.specs.Rules.{where_met}
use Rattle.algebra.specs.Runs.{emptied}
use Rattle.tuples.specs.Guards.{Guard}
use Rattle.rewrite.specs.Trails.{led, at_root, below_filters}
use Rattle.rewrite.specs.Placing.{clearing, emptying}
use Rattle.rewrite.proofs.Leads.{led_then, led_filters}

-- ---- the entries that are kept

-- all numbers from a on that pass
abbrev AllFrom : (ℕ → Bool) → (a n : ℕ) → Type 0
AllFrom p a n = (k : ℕ) → k < n → p (a + k) ≡ true

all_kept : (p : ℕ → Bool) (a n : ℕ) → AllFrom p a n → filter p (range_with_len a n) ≡ range_with_len a n
all_kept p a zero f = refl
all_kept p a (suc n) f =
    let e : a + 0 ≡ a = omega arith in
    ap (λ b. cond b (a ∷ filter p (range_with_len (a + 1) n)) (filter p (range_with_len (a + 1) n))) (sym (ap p e) ∙ f 0 (omega arith))
    ∙ ap (λ l. a ∷ l) (all_kept p (a + 1) n (λ k h. let m : a + 1 + k ≡ a + suc k = omega arith in ap p m ∙ f (suc k) (omega arith)))

range_has : (a n k : ℕ) → k < n → list_any (λ i. i == a + k) (range_with_len a n) ≡ true
range_has a zero k h = absurd (omega arith)
range_has a (suc n) zero h = let e : a ≡ a + 0 = omega arith in or_left (a == a + 0) (list_any (λ i. i == a + 0) (range_with_len (a + 1) n)) (eq-eqb a (a + 0) e)
range_has a (suc n) (suc k) h =
    let e : a + 1 + k ≡ a + suc k = omega arith in
    or_right (a == a + suc k) (list_any (λ i. i == a + suc k) (range_with_len (a + 1) n)) (ap (λ m. list_any (λ i. i == m) (range_with_len (a + 1) n)) (sym e) ∙ range_has (a + 1) n k (omega arith))

-- the term has each of so many entries
abbrev pub HasFirst : ℕ → Term → Type 0
HasFirst n x = (k : ℕ) → k < n → covers x k ≡ true

abbrev none_of : ℕ → Term
none_of n = Empty (range_with_len 0 n)

emptied_is : (n : ℕ) (x : Term) → HasFirst n x → emptied n x ≡ none_of n
emptied_is n x has = ap Empty (all_kept (covers x) 0 n (λ k h. let e : 0 + k ≡ k = omega arith in ap (covers x) e ∙ has k h))

none_has : (n : ℕ) → HasFirst n (none_of n)
none_has n k h = let e : k ≡ 0 + k = omega arith in ap (λ m. list_any (λ i. i == m) (range_with_len 0 n)) e ∙ range_has 0 n k h

joins_have : (n : ℕ) → HasFirst n (joins n)
joins_have zero k h = absurd (omega arith)
joins_have (suc zero) k h = let e : 0 ≡ k = omega arith in eq-eqb 0 k e
joins_have (suc (suc n)) k h = go (cases_lt k (suc n)) (λ m. joins_have (suc n) k m)
  where
    go : (k < suc n) ⊎ (suc n ≤ k) → (k < suc n → covers (joins (suc n)) k ≡ true) → covers (joins (suc n)) k || (suc n == k) ≡ true
    go (inl less) rest = or_left (covers (joins (suc n)) k) (suc n == k) (rest less)
    go (inr more) rest = or_right (covers (joins (suc n)) k) (suc n == k) (let e : suc n ≡ k = omega arith in eq-eqb (suc n) k e)

lefts_have : (ons : List BoundExpr) (i : ℕ) (x : Term) → HasFirst i x → HasFirst (i + length ons) (left_joins i ons x)
lefts_have [] i x has k h = has k (omega arith)
lefts_have (on ∷ ons) i x has k h = lefts_have ons (suc i) (LeftJoined on x (guarded_entry i)) next k (omega arith)
  where
    next : HasFirst (suc i) (LeftJoined on x (guarded_entry i))
    next j m = go (cases_lt j i)
      where
        go : (j < i) ⊎ (i ≤ j) → covers x j || (i == j) ≡ true
        go (inl less) = or_left (covers x j) (i == j) (has j less)
        go (inr more) = or_right (covers x j) (i == j) (let e : i ≡ j = omega arith in eq-eqb i j e)

pub all_have : (n : ℕ) (ons : List BoundExpr) → HasFirst n (all_joins n ons)
all_have n ons k h = lefts_have ons (n - length ons) (joins (n - length ons)) (joins_have (n - length ons)) k (omega arith)

-- ---- the steps

module _ (frame : List Guard) where
  cleared : (e : BoundExpr) → led frame (at_root 16 ∷ []) (Filtered e (none_of (length frame))) ≡ Ok (none_of (length frame))
  cleared e = ap Ok (emptied_is (length frame) (Filtered e (none_of (length frame))) (none_has (length frame)))

  all_cleared : (es : List BoundExpr) → led frame (clearing (length es)) (filters es (none_of (length frame))) ≡ Ok (none_of (length frame))
  all_cleared [] = refl
  all_cleared (e ∷ es) =
      led_then frame (below_filters (length es) (at_root 16 ∷ [])) (clearing (length es)) (filters es (Filtered e (none_of (length frame)))) (filters es (none_of (length frame)))
      (led_filters frame es (at_root 16 ∷ []) (Filtered e (none_of (length frame))) (none_of (length frame)) (cleared e))
      ∙ all_cleared es

  refuted : (e : BoundExpr) (x : Term) → HasFirst (length frame) x → is_never_true e ≡ true → led frame (at_root 15 ∷ []) (Filtered e x) ≡ Ok (none_of (length frame))
  refuted e x has h = ap (λ b. and_then (where_met b (emptied (length frame) x)) (led frame [])) h ∙ ap Ok (emptied_is (length frame) x has)

  -- some condition is never true
  pub all_emptied : (es : List BoundExpr) (x : Term) → HasFirst (length frame) x → list_any is_never_true es ≡ true → led frame (emptying es) (filters es x) ≡ Ok (none_of (length frame))
  all_emptied [] x has h = absurd (cc)
  all_emptied (e ∷ es) x has h = go (is_never_true e) refl h (λ k. all_emptied es (Filtered e x) has k)
    where
      go : (b : Bool) → is_never_true e ≡ b → b || list_any is_never_true es ≡ true → (list_any is_never_true es ≡ true → led frame (emptying es) (filters es (Filtered e x)) ≡ Ok (none_of (length frame))) →
          led frame (if b then below_filters (length es) (at_root 15 ∷ []) ++ clearing (length es) else emptying es) (filters es (Filtered e x)) ≡ Ok (none_of (length frame))
      go true m k further =
          led_then frame (below_filters (length es) (at_root 15 ∷ [])) (clearing (length es)) (filters es (Filtered e x)) (filters es (none_of (length frame)))
          (led_filters frame es (at_root 15 ∷ []) (Filtered e x) (none_of (length frame)) (refuted e x has m))
          ∙ all_cleared es
      go false m k further = further k
