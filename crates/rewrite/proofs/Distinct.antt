-- The entries of an admissible code before the left joined ones: each of them, once.
use Rattle.std.proofs.Common.{◌≡◌, ◌∙◌, refl, sym, ap, ℕ, zero, suc, ◌+◌, ◌-◌, ◌<◌, ◌≤◌, ◌⊎◌, inl, inr, Bool, true, false, ◌&&◌, ◌||◌, not, ◌==◌, nat_lt, nat_le, List, [], ◌∷◌, ◌++◌, length, map, reverse, if◌then◌else◌, arith}
use Rattle.std.specs.List.{list_all, range_with_len}
use Rattle.std.proofs.lemmas.Bool.{both_ways, cases_lt, eqb-true, eq-eqb, leb-true, lt-ltb, ltb-true, not-true, or_cases, or_left, or_right, or_parts}
use Rattle.std.proofs.lemmas.List.{length-map, length-reverse, reverse-append}
use mathlib.Core.List.{reverse_aux}
use Rattle.expr.specs.declared.code.CodeStep.{CodeStep}
use Rattle.predicates.proofs.Movables.{and_left, and_right}
use Rattle.predicates.proofs.Keeping.{both}
use Rattle.trailcheck.specs.Admissible.{is_connected, is_next, is_allowed_access, is_allowed_method, is_allowed_step, are_allowed_steps}
use Rattle.trailcheck.specs.Entries.{is_among}
use Rattle.trailcheck.specs.Settings.{Setting, inner_count}
use Rattle.trailcheck.specs.Shapes.{entry_index}
use Rattle.trailcheck.proofs.Numbers.{numbers_more}
use Rattle.trailcheck.proofs.Placed.{among_more}
use Rattle.rewrite.specs.Placing.{without, code_entries, from_entries}
use Rattle.rewrite.proofs.Tests.{all_follow, equal_turned}

-- none is there twice
abbrev pub Distinct : List ℕ → Type 0
Distinct [] = Unit {0}
Distinct (i ∷ is) = (is_among is i ≡ false) × Distinct is

-- ---- a list without an entry

pub length-without : (c : ℕ) (is : List ℕ) → is_among is c ≡ true → suc (length (without c is)) ≡ length is
length-without c [] h = absurd (cc)
length-without c (i ∷ is) h = go (i == c) h (λ k. length-without c is k)
  where
    go : (b : Bool) → b || is_among is c ≡ true → (is_among is c ≡ true → suc (length (without c is)) ≡ length is) → suc (length (if b then is else i ∷ without c is)) ≡ suc (length is)
    go true k rest = refl
    go false k rest = ap suc (rest k)

-- it has each other entry
without_has : (c d : ℕ) (is : List ℕ) → (c == d) ≡ false → is_among is d ≡ true → is_among (without c is) d ≡ true
without_has c d [] other h = h
without_has c d (i ∷ is) other h = go (i == c) refl (or_cases (i == d) (is_among is d) h) (λ k. without_has c d is other k)
  where
    go : (b : Bool) → (i == c) ≡ b → ((i == d) ≡ true) ⊎ (is_among is d ≡ true) → (is_among is d ≡ true → is_among (without c is) d ≡ true) → is_among (if b then is else i ∷ without c is) d ≡ true
    go true e (inl same) rest = absurd (both_ways (i == d) (ap (λ k. k == d) (eqb-true i c e) ∙ other) same)
    go true e (inr below) rest = below
    go false e (inl same) rest = or_left (i == d) (is_among (without c is) d) same
    go false e (inr below) rest = or_right (i == d) (is_among (without c is) d) (rest below)

pub without_have : (c : ℕ) (cs is : List ℕ) → is_among cs c ≡ false → list_all (is_among is) cs ≡ true → list_all (is_among (without c is)) cs ≡ true
without_have c [] is n h = refl
without_have c (d ∷ cs) is n h =
    let p = or_parts (d == c) (is_among cs c) n in
    both (is_among (without c is) d) (list_all (is_among (without c is)) cs)
    (without_has c d is (equal_turned c d ∙ p.0) (and_left (is_among is d) (list_all (is_among is) cs) h))
    (without_have c cs is p.1 (and_right (is_among is d) (list_all (is_among is) cs) h))

-- entries of which none is twice there, in a list of as many: each of the list is one of them
pub each_has : (cs is : List ℕ) → length cs ≡ length is → Distinct cs → list_all (is_among is) cs ≡ true → (d : ℕ) → is_among is d ≡ true → is_among cs d ≡ true
each_has [] [] l n h d k = k
each_has [] (i ∷ is) l n h d k = absurd (omega arith)
each_has (c ∷ cs) is l n h d k = go (c == d) refl (λ rest m w p. each_has cs rest m n.1 w d p)
  where
    go : (b : Bool) → (c == d) ≡ b → ((rest : List ℕ) → length cs ≡ length rest → list_all (is_among rest) cs ≡ true → is_among rest d ≡ true → is_among cs d ≡ true) → is_among (c ∷ cs) d ≡ true
    go true e further = or_left (c == d) (is_among cs d) e
    go false e further =
        let r = length-without c is (and_left (is_among is c) (list_all (is_among is) cs) h) in
        let m : length cs ≡ length (without c is) = omega (arith, r) in
        or_right (c == d) (is_among cs d)
        (further (without c is) m (without_have c cs is n.0 (and_right (is_among is c) (list_all (is_among is) cs) h)) (without_has c d is e k))

-- ---- the entries of FROM

pub from_next : (n : ℕ) → reverse (range_with_len 0 (suc n)) ≡ n ∷ reverse (range_with_len 0 n)
from_next n = let e : suc n ≡ n + 1 = omega arith in ap reverse (ap (range_with_len 0) e ∙ numbers_more n) ∙ reverse-append (range_with_len 0 n) (n ∷ [])

pub from_count : (n : ℕ) → length (reverse (range_with_len 0 n)) ≡ n
from_count zero = refl
from_count (suc n) = ap length (from_next n) ∙ ap suc (from_count n)

pub from_has : (n k : ℕ) → k < n → is_among (reverse (range_with_len 0 n)) k ≡ true
from_has zero k h = absurd (omega arith)
from_has (suc n) k h = ap (λ l. is_among l k) (from_next n) ∙ go (cases_lt k n) (λ m. from_has n k m)
  where
    go : (k < n) ⊎ (n ≤ k) → (k < n → is_among (reverse (range_with_len 0 n)) k ≡ true) → (n == k) || is_among (reverse (range_with_len 0 n)) k ≡ true
    go (inl less) rest = or_right (n == k) (is_among (reverse (range_with_len 0 n)) k) (rest less)
    go (inr more) rest = or_left (n == k) (is_among (reverse (range_with_len 0 n)) k) (let e : n ≡ k = omega arith in eq-eqb n k e)

-- ---- the entries of a code

-- each step has an entry that is there, and that has no place yet
abbrev pub AreNew : ℕ → List ℕ → List CodeStep → Type 0
AreNew count placed [] = Unit {0}
AreNew count placed (s ∷ ss) = (entry_index s < count) × (is_among placed (entry_index s) ≡ false) × AreNew count (placed ++ entry_index s ∷ []) ss

index_below : (count n : ℕ) → nat_le 1 n && nat_le n count ≡ true → n - 1 < count
index_below count n h =
    let a = leb-true 1 n (and_left (nat_le 1 n) (nat_le n count) h) in
    let b = leb-true n count (and_right (nat_le 1 n) (nat_le n count) h) in
    omega (arith, a, b)

pub are_new : (at : Setting) (placed : List ℕ) (ss : List CodeStep) → are_allowed_steps at placed ss ≡ true → AreNew (inner_count at) placed ss
are_new at placed [] h = tt
are_new at placed (s ∷ ss) h =
    let i = entry_index s in
    let step = and_left (is_allowed_step at placed s) (are_allowed_steps at (placed ++ i ∷ []) ss) h in
    let order = and_left (is_next at placed s && is_connected at placed i) (is_allowed_access at i s.access && is_allowed_method at placed i s.method) step in
    let next = and_left (is_next at placed s) (is_connected at placed i) order in
    let there = nat_le 1 s.entry && nat_le s.entry (inner_count at) in (
      index_below (inner_count at) s.entry (and_left there (not (is_among placed i)) next),
      not-true (is_among placed i) (and_right there (not (is_among placed i)) next),
      are_new at (placed ++ i ∷ []) ss (and_right (is_allowed_step at placed s) (are_allowed_steps at (placed ++ i ∷ []) ss) h),
    )

module _ (count : ℕ) where
  -- the entries of the steps, the last first, in front of those that are placed
  pub distinct_back : (ss : List CodeStep) (placed js : List ℕ) → ((k : ℕ) → is_among placed k ≡ is_among js k) → AreNew count placed ss → Distinct js → Distinct (reverse_aux (map entry_index ss) js)
  distinct_back [] placed js same new d = d
  distinct_back (s ∷ ss) placed js same new d =
      distinct_back ss (placed ++ entry_index s ∷ []) (entry_index s ∷ js) (λ k. among_more placed (entry_index s) k ∙ ap (λ m. (entry_index s == k) || m) (same k)) new.2
      (sym (same (entry_index s)) ∙ new.1, d)

  pub below_back : (ss : List CodeStep) (placed js : List ℕ) → AreNew count placed ss → list_all (λ i. nat_lt i count) js ≡ true → list_all (λ i. nat_lt i count) (reverse_aux (map entry_index ss) js) ≡ true
  below_back [] placed js new b = b
  below_back (s ∷ ss) placed js new b =
      below_back ss (placed ++ entry_index s ∷ []) (entry_index s ∷ js) new.2
      (both (nat_lt (entry_index s) count) (list_all (λ i. nat_lt i count) js) (lt-ltb (entry_index s) count new.0) b)

-- the placed entries and those of the steps
abbrev pub placed_after : List ℕ → List CodeStep → List ℕ
placed_after placed [] = placed
placed_after placed (s ∷ ss) = placed_after (placed ++ entry_index s ∷ []) ss

pub same_back : (ss : List CodeStep) (placed js : List ℕ) → ((k : ℕ) → is_among placed k ≡ is_among js k) → (k : ℕ) → is_among (placed_after placed ss) k ≡ is_among (reverse_aux (map entry_index ss) js) k
same_back [] placed js same k = same k
same_back (s ∷ ss) placed js same k = same_back ss (placed ++ entry_index s ∷ []) (entry_index s ∷ js) (λ m. among_more placed (entry_index s) m ∙ ap (λ b. (entry_index s == m) || b) (same m)) k

-- what is known of the entries of the steps that come before the left joined ones, of an admissible code
module _ (at : Setting) (ss : List CodeStep) (as_many : length ss ≡ inner_count at) (new : AreNew (inner_count at) [] ss) where
  pub code_distinct : Distinct (code_entries at ss)
  code_distinct = distinct_back (inner_count at) ss [] [] (λ k. refl) new tt

  pub code_count : length (code_entries at ss) ≡ length (from_entries at)
  code_count = length-reverse (map entry_index ss) ∙ length-map ss entry_index ∙ as_many ∙ sym (from_count (inner_count at))

  pub code_within : list_all (is_among (from_entries at)) (code_entries at ss) ≡ true
  code_within =
      all_follow (λ i. nat_lt i (inner_count at)) (is_among (from_entries at)) (λ i h. from_has (inner_count at) i (ltb-true i (inner_count at) h)) (code_entries at ss)
      (below_back (inner_count at) ss [] [] new refl)

  -- each of these entries is placed in the end
  pub all_placed : (k : ℕ) → k < inner_count at → is_among (placed_after [] ss) k ≡ true
  all_placed k h =
      same_back ss [] [] (λ m. refl) k
      ∙ each_has (code_entries at ss) (from_entries at) code_count code_distinct code_within k (from_has (inner_count at) k h)
