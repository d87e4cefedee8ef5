-- Numbers, one after another, and the first of them that passes a test.
use Rattle.std.proofs.Common.{◌≡◌, ◌∙◌, ℕ, zero, suc, ◌+◌, ◌-◌, ◌<◌, ◌≤◌, ◌⊎◌, inl, inr, Bool, true, false, ◌&&◌, ◌||◌, ◌==◌, nat_lt, Option, Some, None, refl, sym, ap, ap₂, arith}
use Rattle.std.specs.Prelude.{if◌then◌else◌}
use Rattle.std.specs.List.{range_with_len}
use Rattle.std.proofs.lemmas.Bool.{cases_eq, cases_lt, eq-eqb, le-ltb, lt-ltb, ne_eqb, or_left, or_right}
use Rattle.expr.specs.declared.bound.ColumnId.{ColumnId}
use Rattle.trailcheck.specs.Admissible.{are_across}
use Rattle.trailcheck.specs.Entries.{is_among}
use Rattle.trailcheck.specs.Equalities.{first_number}

-- ---- the entries before one

among : (a n k : ℕ) → a ≤ k → k < a + n → is_among (range_with_len a n) k ≡ true
among a zero k from below = absurd (omega arith)
among a (suc n) k from below = go (cases_eq a k) (λ other. among (a + 1) n k other (omega arith))
  where
    go : (a ≡ k) ⊎ (a ≡ k → ⊥) → (a + 1 ≤ k → is_among (range_with_len (a + 1) n) k ≡ true) → (a == k) || is_among (range_with_len (a + 1) n) k ≡ true
    go (inl same) rest = or_left (a == k) (is_among (range_with_len (a + 1) n) k) (eq-eqb a k same)
    go (inr other) rest = or_right (a == k) (is_among (range_with_len (a + 1) n) k) (rest (omega arith))

pub not_among : (a n k : ℕ) → a + n ≤ k → is_among (range_with_len a n) k ≡ false
not_among a zero k past = refl
not_among a (suc n) k past = rw (ne_eqb a k (λ e. omega (arith, e))) (not_among (a + 1) n k (omega arith))

pub among_first : (n k : ℕ) → is_among (range_with_len 0 n) k ≡ nat_lt k n
among_first n k = go (cases_lt k n)
  where
    go : (k < n) ⊎ (n ≤ k) → is_among (range_with_len 0 n) k ≡ nat_lt k n
    go (inl less) = among 0 n k (omega arith) (omega arith) ∙ sym (lt-ltb k n less)
    go (inr more) = not_among 0 n k (omega arith) ∙ sym (le-ltb k n more)

exchanged : (x y : Bool) → (x && y) ≡ (y && x)
exchanged true true = refl
exchanged true false = refl
exchanged false true = refl
exchanged false false = refl

-- of two columns one is of an earlier entry, the other one of the entry
pub across_before : (i : ℕ) (a b : ColumnId) (x y : Bool) → x ≡ nat_lt a.entry i && (b.entry == i) → y ≡ nat_lt b.entry i && (a.entry == i) → x || y ≡ are_across (range_with_len 0 i) i (Some (a, b))
across_before i a b x y one other =
    ap₂ (λ s t. s || t) (one ∙ ap (λ s. s && (b.entry == i)) (sym (among_first i a.entry))) (other ∙ exchanged (nat_lt b.entry i) (a.entry == i) ∙ ap (λ s. (a.entry == i) && s) (sym (among_first i b.entry)))

-- ---- the first number that passes a test

module _ (test : ℕ → Bool) where
  -- it passes
  pub first_passes : (k n m : ℕ) → first_number test k n ≡ Some m → test m ≡ true
  first_passes k zero m e = absurd (cc)
  first_passes k (suc n) m e = go (test k) refl e (first_passes (k + 1) n m)
    where
      go : (b : Bool) → test k ≡ b → (if b then Some k else first_number test (k + 1) n) ≡ Some m → (first_number test (k + 1) n ≡ Some m → test m ≡ true) → test m ≡ true
      go true is e rest = let same : k ≡ m = cc in ap test (sym same) ∙ is
      go false is e rest = rest e

  -- and no lesser one does
  pub first_least : (k n j : ℕ) → k ≤ j → j < k + n → test j ≡ true → (m : ℕ) × (first_number test k n ≡ Some m) × (m ≤ j)
  first_least k zero j from below passes = absurd (omega arith)
  first_least k (suc n) j from below passes = go (test k) refl (λ other. first_least (k + 1) n j other (omega arith) passes)
    where
      other : test k ≡ false → (k ≡ j) ⊎ (k ≡ j → ⊥) → k + 1 ≤ j
      other is (inl same) = let e : true ≡ false = sym passes ∙ ap test (sym same) ∙ is in absurd (cc)
      other is (inr not) = omega arith

      go : (b : Bool) → test k ≡ b → (k + 1 ≤ j → (m : ℕ) × (first_number test (k + 1) n ≡ Some m) × (m ≤ j)) → (m : ℕ) × ((if b then Some k else first_number test (k + 1) n) ≡ Some m) × (m ≤ j)
      go true is rest = (k, refl, from)
      go false is rest = rest (other is (cases_eq k j))

  -- the next number does not pass it, or does
  module _ (count k : ℕ) (whole : Option ℕ) (so_far : first_number test (k + 1) (count - k) ≡ whole) (more : k < count) where
    next_number : (if test (k + 1) then Some (k + 1) else first_number test (k + 1 + 1) (count - (k + 1))) ≡ whole
    next_number = let left : count - k ≡ suc (count - (k + 1)) = omega arith in ap (first_number test (k + 1)) (sym left) ∙ so_far

    pub not_this : false ≡ test (k + 1) → first_number test (k + 1 + 1) (count - (k + 1)) ≡ whole
    not_this is = ap (λ (b : Bool). if b then Some (k + 1) else first_number test (k + 1 + 1) (count - (k + 1))) is ∙ next_number

    pub is_this : true ≡ test (k + 1) → Some (k + 1) ≡ whole
    is_this is = ap (λ (b : Bool). if b then Some (k + 1) else first_number test (k + 1 + 1) (count - (k + 1))) is ∙ next_number

  -- no number is left
  pub none_passes : (count k : ℕ) (whole : Option ℕ) → first_number test (k + 1) (count - k) ≡ whole → count ≤ k → None ≡ whole
  none_passes count k whole so_far none = let left : count - k ≡ 0 = omega arith in ap (first_number test (k + 1)) (sym left) ∙ so_far
