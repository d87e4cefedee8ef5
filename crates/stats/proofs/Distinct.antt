-- A list has as many elements without repeats as it has runs of equal neighbours in order.
use Rattle.std.proofs.Common.{◌≡◌, ℕ, suc, ◌+◌, ◌≤◌, Bool, true, false, cond, ◌||◌, List, [], ◌∷◌, length, refl, sym, ap, ◌∙◌, arith, Ordering, Less, Equal, Greater, is_gt, is_eq, true≢false}
use Rattle.std.specs.List.{AllByRecursion, list_any}
use Rattle.std.specs.Cmp.{IsTotalOrder}
use Rattle.std.specs.Ordering.{ordering_reverse}
use Rattle.std.proofs.lemmas.List.Sorted.{list_any-IsPermutation}
use Rattle.bags.specs.Sorting.{insert_sorted, sorted_by}
use Rattle.bags.proofs.Order.{Ascends, ascends-sorted_by, IsPermutation-sorted_by, still_less}
use Rattle.stats.specs.Repeats.{is_repeated, without_repeats}
use Rattle.stats.specs.Runs.{runs}

module _ {X : Type 0} (cmp : X → X → Ordering) where
  -- 1 for an element that the list does not have, else 0
  abbrev pub added : X → List X → ℕ
  added x xs = cond (is_repeated cmp x xs) 0 1

  pub count_kept : (x : X) (xs : List X) → length (without_repeats cmp (x ∷ xs)) ≡ added x xs + length (without_repeats cmp xs)
  count_kept x xs =
      elim (is_repeated cmp x xs) as (λ b. length (cond b (without_repeats cmp xs) (x ∷ without_repeats cmp xs)) ≡ cond b 0 1 + length (without_repeats cmp xs)) [
        | true ↦ omega arith
        | false ↦ omega arith
      ]

  pub count_few : (xs : List X) → length (without_repeats cmp xs) ≤ length xs
  count_few [] = omega arith
  count_few (x ∷ xs) =
      let front = count_kept x xs in
      let rest = count_few xs in
      let one : added x xs ≤ 1 = elim (is_repeated cmp x xs) as (λ b. cond b 0 1 ≤ 1) [ true ↦ omega arith | false ↦ omega arith ] in
      omega (arith, front, rest, one)

module _ {X : Type 0} (cmp : X → X → Ordering) (total : IsTotalOrder cmp) where
  greater_turned : (o : Ordering) → is_gt o ≡ true → is_eq (ordering_reverse o) ≡ false
  greater_turned Less e = refl
  greater_turned Equal e = absurd (true≢false (sym e))
  greater_turned Greater e = refl

  greater_apart : (o : Ordering) → is_gt o ≡ true → is_eq o ≡ false
  greater_apart Less e = refl
  greater_apart Equal e = absurd (true≢false (sym e))
  greater_apart Greater e = refl

  either_first : (a b c : Bool) → (b || (a || c)) ≡ (a || (b || c))
  either_first true true c = refl
  either_first true false c = refl
  either_first false true c = refl
  either_first false false c = refl

  any_inserted : (test : X → Bool) (x : X) (ys : List X) → list_any test (insert_sorted cmp x ys) ≡ (test x || list_any test ys)
  any_inserted test x [] = refl
  any_inserted test x (y ∷ ys) =
      elim (is_gt (cmp x y)) as (λ b. list_any test (cond b (y ∷ insert_sorted cmp x ys) (x ∷ y ∷ ys)) ≡ (test x || (test y || list_any test ys))) [
        | true ↦ ap (λ b. test y || b) (any_inserted test x ys) ∙ either_first (test x) (test y) (list_any test ys)
        | false ↦ refl
      ]

  added_inserted : (y x : X) (ys : List X) → is_gt (cmp x y) ≡ true → added cmp y (insert_sorted cmp x ys) ≡ added cmp y ys
  added_inserted y x ys gt =
      ap (λ b. cond b 0 1) (
      any_inserted (λ z. is_eq (cmp y z)) x ys
      ∙ ap (λ b. b || is_repeated cmp y ys) (ap is_eq (total.antisymm y x) ∙ greater_turned (cmp x y) gt))

  -- a new element adds one, unless the list has it
  count_inserted : (x : X) (ys : List X) → length (without_repeats cmp (insert_sorted cmp x ys)) ≡ added cmp x ys + length (without_repeats cmp ys)
  count_inserted x [] = refl
  count_inserted x (y ∷ ys) = go (is_gt (cmp x y)) refl (count_inserted x ys)
    where
      go : (b : Bool) → is_gt (cmp x y) ≡ b → length (without_repeats cmp (insert_sorted cmp x ys)) ≡ added cmp x ys + length (without_repeats cmp ys)
          → length (without_repeats cmp (cond b (y ∷ insert_sorted cmp x ys) (x ∷ y ∷ ys))) ≡ added cmp x (y ∷ ys) + length (without_repeats cmp (y ∷ ys))
      go false e rest = count_kept cmp x (y ∷ ys)
      go true e rest =
          let apart : added cmp x (y ∷ ys) ≡ added cmp x ys = ap (λ b. cond (b || is_repeated cmp x ys) 0 1) (greater_apart _ e) in
          let front = count_kept cmp y (insert_sorted cmp x ys) in
          let same = added_inserted y x ys e in
          let behind = count_kept cmp y ys in
          omega (arith, apart, front, same, rest, behind)

  -- order does not change how many are left
  pub count_sorted : (xs : List X) → length (without_repeats cmp (sorted_by cmp xs)) ≡ length (without_repeats cmp xs)
  count_sorted [] = refl
  count_sorted (x ∷ xs) =
      let same : added cmp x (sorted_by cmp xs) ≡ added cmp x xs = ap (λ b. cond b 0 1) (list_any-IsPermutation (λ z. is_eq (cmp x z)) _ _ (IsPermutation-sorted_by cmp total xs)) in
      omega (arith, count_inserted x (sorted_by cmp xs), same, count_sorted xs, count_kept cmp x xs)

  -- no later element equals one that is less than the next
  none_later : (x : X) (ys : List X) → AllByRecursion (λ z. cmp x z ≡ Less) ys → is_repeated cmp x ys ≡ false
  none_later x [] all = refl
  none_later x (y ∷ ys) all = ap (λ o. is_eq o || is_repeated cmp x ys) all.0 ∙ none_later x ys all.1

  all_less : (x y : X) (ys : List X) → cmp x y ≡ Less → AllByRecursion (λ z. is_gt (cmp y z) ≡ false) ys → AllByRecursion (λ z. cmp x z ≡ Less) ys
  all_less x y [] less all = tt
  all_less x y (z ∷ zs) less all = (still_less cmp total x y z less all.0, all_less x y zs less all.1)

  -- in order an element is repeated exactly where the next one equals it
  repeated_next : (x y : X) (ys : List X) → Ascends cmp total (x ∷ y ∷ ys) → is_repeated cmp x (y ∷ ys) ≡ is_eq (cmp x y)
  repeated_next x y ys up = go (cmp x y) refl
    where
      go : (o : Ordering) → cmp x y ≡ o → (is_eq o || is_repeated cmp x ys) ≡ is_eq o
      go Less e = none_later x ys (all_less x y ys e up.1.0)
      go Equal e = refl
      go Greater e = absurd (true≢false (sym (ap is_gt e) ∙ up.0.0))

  count_runs : (xs : List X) → Ascends cmp total xs → runs cmp xs ≡ length (without_repeats cmp xs)
  count_runs [] up = refl
  count_runs (x ∷ []) up = refl
  count_runs (x ∷ y ∷ ys) up = go (is_eq (cmp x y)) (is_repeated cmp x (y ∷ ys)) (repeated_next x y ys up) (count_runs (y ∷ ys) up.1)
    where
      go : (b c : Bool) → c ≡ b → runs cmp (y ∷ ys) ≡ length (without_repeats cmp (y ∷ ys))
          → cond b (runs cmp (y ∷ ys)) (suc (runs cmp (y ∷ ys))) ≡ length (cond c (without_repeats cmp (y ∷ ys)) (x ∷ without_repeats cmp (y ∷ ys)))
      go true true e more = more
      go false false e more = ap suc more
      go true false e more = absurd (true≢false (sym e))
      go false true e more = absurd (true≢false e)

  -- the runs of a list in order are the distinct elements of the list
  pub runs_sorted : (xs : List X) → runs cmp (sorted_by cmp xs) ≡ length (without_repeats cmp xs)
  runs_sorted xs = count_runs (sorted_by cmp xs) (ascends-sorted_by cmp total xs) ∙ count_sorted xs
