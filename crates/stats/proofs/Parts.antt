-- The distinct values of a list are those of each type.
use Rattle.std.proofs.Common.{◌≡◌, ℕ, suc, ◌+◌, ◌≤◌, Bool, true, false, cond, ◌||◌, ℤ, Bor, List, [], ◌∷◌, length, map, filter, refl, sym, ap, ap₂, arith, Ordering, Less, Equal, Greater, is_eq, true≢false}
use Rattle.std.specs.List.{list_any}
use Rattle.std.specs.Str.{bytes_eq}
use Rattle.std.specs.Cmp.{IsEquivalence}
use mathlib.Core.Bool.{beq}
use Rattle.std.proofs.lemmas.Cmp.{nat_list_eq_equiv, on_equiv}
use Rattle.std.proofs.lemmas.List.{length-map}
use Rattle.std.specs.Set.{distinct_count, is_member, unique_keys}
use Rattle.std.specs.Cmp.Lexicographic.{slice_cmp}
use Rattle.std.specs.Ordering.{bool_cmp, int_cmp, nat_cmp, ordering_then}
use Rattle.value.specs.Datum.{Datum, Row, cell, null, int, text, bool}
use Rattle.value.specs.Orders.{datum_cmp}
use Rattle.stats.specs.Repeats.{is_repeated, without_repeats}
use Rattle.stats.specs.Statistics.{is_value, numbers, values_in}
use Rattle.stats.specs.Types.{texts, truths}
use Rattle.stats.proofs.Distinct.{added, count_few, count_kept}

then_equal : (o : Ordering) → is_eq (ordering_then o Equal) ≡ is_eq o
then_equal Less = refl
then_equal Equal = refl
then_equal Greater = refl

abbrev pub text_cmp : List ℕ → List ℕ → Ordering
text_cmp = slice_cmp nat_cmp

-- ---- a value is repeated exactly where it is among those of its type

number_repeated : (n : ℤ) (ds : List Datum) → is_repeated datum_cmp (int n) ds ≡ is_repeated int_cmp n (numbers ds)
number_repeated n [] = refl
number_repeated n (null ∷ ds) = number_repeated n ds
number_repeated n (int m ∷ ds) = ap₂ ◌||◌ (then_equal (int_cmp n m)) (number_repeated n ds)
number_repeated n (text u ∷ ds) = number_repeated n ds
number_repeated n (bool true ∷ ds) = number_repeated n ds
number_repeated n (bool false ∷ ds) = number_repeated n ds

text_repeated : (t : List ℕ) (ds : List Datum) → is_repeated datum_cmp (text t) ds ≡ is_repeated text_cmp t (texts ds)
text_repeated t [] = refl
text_repeated t (null ∷ ds) = text_repeated t ds
text_repeated t (int m ∷ ds) = text_repeated t ds
text_repeated t (text u ∷ ds) = ap (λ b. is_eq (text_cmp t u) || b) (text_repeated t ds)
text_repeated t (bool true ∷ ds) = text_repeated t ds
text_repeated t (bool false ∷ ds) = text_repeated t ds

truth_repeated : (b : Bool) (ds : List Datum) → is_repeated datum_cmp (bool b) ds ≡ is_repeated bool_cmp b (truths ds)
truth_repeated b [] = refl
truth_repeated true (null ∷ ds) = truth_repeated true ds
truth_repeated false (null ∷ ds) = truth_repeated false ds
truth_repeated true (int m ∷ ds) = truth_repeated true ds
truth_repeated false (int m ∷ ds) = truth_repeated false ds
truth_repeated true (text u ∷ ds) = truth_repeated true ds
truth_repeated false (text u ∷ ds) = truth_repeated false ds
truth_repeated true (bool true ∷ ds) = refl
truth_repeated true (bool false ∷ ds) = truth_repeated true ds
truth_repeated false (bool true ∷ ds) = truth_repeated false ds
truth_repeated false (bool false ∷ ds) = refl

-- ---- the numbers of distinct values

abbrev distinct_parts : List Datum → ℕ
distinct_parts ds = length (without_repeats int_cmp (numbers ds)) + length (without_repeats text_cmp (texts ds)) + length (without_repeats bool_cmp (truths ds))

pub count_parts : (ds : List Datum) → length (without_repeats datum_cmp (filter is_value ds)) ≡ distinct_parts (filter is_value ds)
count_parts [] = refl
count_parts (null ∷ ds) = count_parts ds
count_parts (int n ∷ ds) =
    let values = filter is_value ds in
    let same : added datum_cmp (int n) values ≡ added int_cmp n (numbers values) = ap (λ b. cond b 0 1) (number_repeated n values) in
    let all = count_kept datum_cmp (int n) values in
    let part = count_kept int_cmp n (numbers values) in
    let more = count_parts ds in
    omega (arith, same, all, part, more)
count_parts (text t ∷ ds) =
    let values = filter is_value ds in
    let same : added datum_cmp (text t) values ≡ added text_cmp t (texts values) = ap (λ b. cond b 0 1) (text_repeated t values) in
    let all = count_kept datum_cmp (text t) values in
    let part = count_kept text_cmp t (texts values) in
    let more = count_parts ds in
    omega (arith, same, all, part, more)
count_parts (bool b ∷ ds) =
    let values = filter is_value ds in
    let same : added datum_cmp (bool b) values ≡ added bool_cmp b (truths values) = ap (λ b. cond b 0 1) (truth_repeated b values) in
    let all = count_kept datum_cmp (bool b) values in
    let part = count_kept bool_cmp b (truths values) in
    let more = count_parts ds in
    omega (arith, same, all, part, more)

filter_few : (ds : List Datum) → length (filter is_value ds) ≤ length ds
filter_few [] = omega arith
filter_few (d ∷ ds) =
    let more = filter_few ds in
    elim (is_value d) as (λ b. length (cond b (d ∷ filter is_value ds) (filter is_value ds)) ≤ length (d ∷ ds)) [ true ↦ omega (arith, more) | false ↦ omega (arith, more) ]

-- ---- of a column

module _ (rows : List Row) (column : ℕ) where
  -- no more values are distinct than there are rows
  pub distinct_few : length (without_repeats datum_cmp (values_in rows column)) ≤ length rows
  distinct_few =
      let cells = map (λ row. cell row column) rows in
      omega (arith, count_few datum_cmp (values_in rows column), filter_few cells, length-map rows (λ row. cell row column))

  pub distinct_all : (n t b : ℕ) → n ≡ length (without_repeats int_cmp (numbers (values_in rows column))) → t ≡ length (without_repeats text_cmp (texts (values_in rows column))) → b ≡ length (without_repeats bool_cmp (truths (values_in rows column)))
      → n + t + b ≡ length (without_repeats datum_cmp (values_in rows column))
  distinct_all n t b is_n is_t is_b = omega (arith, is_n, is_t, is_b, count_parts (map (λ row. cell row column) rows))

-- ---- in a set

module _ {K X : Type 0} (eq : K → K → Bool) (cmp : X → X → Ordering) (f : K → X) (same : (a b : K) → eq a b ≡ is_eq (cmp (f a) (f b))) where
  pub repeated_member : (k : K) (ks : List K) → is_member eq ks k ≡ is_repeated cmp (f k) (map f ks)
  repeated_member k [] = refl
  repeated_member k (j ∷ ks) = ap₂ ◌||◌ (same k j) (repeated_member k ks)

  pub count_set : (ks : List K) → distinct_count eq ks ≡ length (without_repeats cmp (map f ks))
  count_set [] = refl
  count_set (k ∷ ks) = go (is_member eq ks k) (is_repeated cmp (f k) (map f ks)) (repeated_member k ks) (count_set ks)
    where
      go : (a b : Bool) → a ≡ b → distinct_count eq ks ≡ length (without_repeats cmp (map f ks)) → length (cond a (unique_keys eq ks) (k ∷ unique_keys eq ks)) ≡ length (cond b (without_repeats cmp (map f ks)) (f k ∷ without_repeats cmp (map f ks)))
      go true true e more = more
      go false false e more = ap suc more
      go true false e more = absurd (true≢false e)
      go false true e more = absurd (true≢false (sym e))

-- the equality of texts behind references
abbrev pub same_text : Bor (List ℕ) → Bor (List ℕ) → Bool
same_text a b = bytes_eq a.now b.now

pub same_text_equiv : IsEquivalence same_text
same_text_equiv = on_equiv (λ (t : Bor (List ℕ)). t.now) nat_list_eq_equiv

-- ---- of truth values

pub any_is : (b : Bool) (bs : List Bool) → list_any (λ y. beq y b) bs ≡ is_repeated bool_cmp b bs
any_is b [] = refl
any_is true (true ∷ bs) = refl
any_is true (false ∷ bs) = any_is true bs
any_is false (true ∷ bs) = any_is false bs
any_is false (false ∷ bs) = refl

pub count_truths : (bs : List Bool) → length (without_repeats bool_cmp bs) ≡ cond (is_repeated bool_cmp false bs) 1 0 + cond (is_repeated bool_cmp true bs) 1 0
count_truths [] = refl
count_truths (true ∷ bs) = go (is_repeated bool_cmp true bs) (count_kept bool_cmp true bs) (count_truths bs)
  where
    go : (r : Bool) → length (without_repeats bool_cmp (true ∷ bs)) ≡ cond r 0 1 + length (without_repeats bool_cmp bs) → length (without_repeats bool_cmp bs) ≡ cond (is_repeated bool_cmp false bs) 1 0 + cond r 1 0
        → length (without_repeats bool_cmp (true ∷ bs)) ≡ cond (is_repeated bool_cmp false bs) 1 0 + 1
    go true kept more = omega (arith, kept, more)
    go false kept more = omega (arith, kept, more)
count_truths (false ∷ bs) = go (is_repeated bool_cmp false bs) (count_kept bool_cmp false bs) (count_truths bs)
  where
    go : (r : Bool) → length (without_repeats bool_cmp (false ∷ bs)) ≡ cond r 0 1 + length (without_repeats bool_cmp bs) → length (without_repeats bool_cmp bs) ≡ cond r 1 0 + cond (is_repeated bool_cmp true bs) 1 0
        → length (without_repeats bool_cmp (false ∷ bs)) ≡ 1 + cond (is_repeated bool_cmp true bs) 1 0
    go true kept more = omega (arith, kept, more)
    go false kept more = omega (arith, kept, more)
