-- The keys of members, in order and each once.
use Rattle.std.proofs.Common.{◌≡◌, Bool, true, false, cond, List, [], ◌∷◌, ◌++◌, filter, refl, sym, ap, subst, ◌∙◌, Ordering, Less, Equal, Greater, is_eq, is_gt, true≢false}
use Rattle.std.specs.List.{AllByRecursion}
use Rattle.std.specs.Cmp.{eq_by_cmp_equiv}
use Rattle.std.specs.Ordering.{match_ordering, ordering_reverse}
use Rattle.std.proofs.lemmas.List.{map-append}
use Rattle.std.proofs.lemmas.List.Sorted.{IsPermutation-to_front}
use Rattle.bags.specs.Sorting.{insert_sorted, sorted_by}
use Rattle.bags.proofs.Order.{Ascends, all_weaker, ascends-sorted_by, sorted_by-IsPermutation}
use Rattle.value.specs.Datum.{Row}
use Rattle.value.specs.Orders.{row_cmp}
use Rattle.value.proofs.DatumOrder.{row_cmp_total, row_cmp_exact}
use Rattle.groups.specs.Members.{Member}
use Rattle.groups.specs.Groups.{same_key, has_key, front_once, without_repeats, keys}

-- each key of the members once
abbrev pub each_key : List Member → List Row
each_key ms = without_repeats (sorted_by row_cmp (keys ms))

-- ---- keys rise

-- each key is below those that follow
abbrev pub Rise : List Row → Type 0
Rise [] = Unit {0}
Rise (k ∷ ks) = AllByRecursion (λ l. row_cmp k l ≡ Less) ks × Rise ks

once : (P : Row → Type 0) (k : Row) (ls : List Row) → P k → AllByRecursion P ls → AllByRecursion P (front_once k ls)
once P k [] h all = (h, tt)
once P k (l ∷ ls) h all = elim (is_eq (row_cmp k l)) as (λ b. AllByRecursion P (cond b (k ∷ ls) (k ∷ l ∷ ls))) [ true ↦ (h, all.1) | false ↦ (h, all) ]

all_once : (P : Row → Type 0) (ks : List Row) → AllByRecursion P ks → AllByRecursion P (without_repeats ks)
all_once P [] all = tt
all_once P (k ∷ ks) all = once P k (without_repeats ks) all.0 (all_once P ks all.1)

in_front : (k : Row) (ls : List Row) → AllByRecursion (λ l. is_gt (row_cmp k l) ≡ false) ls → Rise ls → Rise (front_once k ls)
in_front k [] least up = (tt, tt)
in_front k (l ∷ ls) least up = go (row_cmp k l) refl
  where
    go : (o : Ordering) → row_cmp k l ≡ o → Rise (cond (is_eq (row_cmp k l)) (k ∷ ls) (k ∷ l ∷ ls))
    go Less e = subst (λ o. Rise (cond (is_eq o) (k ∷ ls) (k ∷ l ∷ ls))) (sym e) ((e, all_weaker _ (λ x. row_cmp k x ≡ Less) (λ x. row_cmp_total.trans k l x e) ls up.0), up)
    go Equal e = subst (λ o. Rise (cond (is_eq o) (k ∷ ls) (k ∷ l ∷ ls))) (sym e) (subst (λ x. AllByRecursion (λ y. row_cmp x y ≡ Less) ls) (sym (row_cmp_exact k l e)) up.0, up.1)
    go Greater e = absurd (true≢false (sym (ap is_gt e) ∙ least.0))

keys_rise : (ks : List Row) → Ascends row_cmp row_cmp_total ks → Rise (without_repeats ks)
keys_rise [] up = tt
keys_rise (k ∷ ks) up = in_front k (without_repeats ks) (all_once _ ks up.0) (keys_rise ks up.1)

pub each_rises : (ms : List Member) → Rise (each_key ms)
each_rises ms = keys_rise (sorted_by row_cmp (keys ms)) (ascends-sorted_by row_cmp row_cmp_total (keys ms))

-- ---- one more key

-- one more key in the order, unless it is there
abbrev pub put_key : Row → List Row → List Row
put_key k [] = k ∷ []
put_key k (l ∷ ls) = match_ordering (row_cmp k l) (k ∷ l ∷ ls) (l ∷ ls) (l ∷ put_key k ls)

goes_first : (k x : Row) (rest : List Row) → is_gt (row_cmp k x) ≡ false → front_once k (x ∷ rest) ≡ put_key k (x ∷ rest)
goes_first k x rest = go (row_cmp k x) refl
  where
    go : (o : Ordering) → row_cmp k x ≡ o → is_gt o ≡ false → cond (is_eq o) (k ∷ rest) (k ∷ x ∷ rest) ≡ match_ordering o (k ∷ x ∷ rest) (x ∷ rest) (x ∷ put_key k rest)
    go Less e h = refl
    go Equal e h = ap (λ l. l ∷ rest) (row_cmp_exact k x e)
    go Greater e h = absurd (true≢false h)

before_first : (k x : Row) (ys : List Row) → is_gt (row_cmp k x) ≡ false → front_once k (front_once x ys) ≡ put_key k (front_once x ys)
before_first k x [] h = goes_first k x [] h
before_first k x (y ∷ ys) h =
    elim (is_eq (row_cmp x y)) as (λ b. front_once k (cond b (x ∷ ys) (x ∷ y ∷ ys)) ≡ put_key k (cond b (x ∷ ys) (x ∷ y ∷ ys))) [ true ↦ goes_first k x ys h | false ↦ goes_first k x (y ∷ ys) h ]

passes : (k x : Row) (ls : List Row) → row_cmp k x ≡ Greater → put_key k (x ∷ ls) ≡ x ∷ put_key k ls
passes k x ls h = ap (λ o. match_ordering o (k ∷ x ∷ ls) (x ∷ ls) (x ∷ put_key k ls)) h

after_first : (k x : Row) (ys : List Row) → row_cmp k x ≡ Greater → front_once x (put_key k ys) ≡ put_key k (front_once x ys)
after_first k x [] h = ap (λ o. cond (is_eq o) (x ∷ []) (x ∷ k ∷ [])) (row_cmp_total.antisymm x k ∙ ap ordering_reverse h) ∙ sym (passes k x [] h)
after_first k x (y ∷ ys) h = go (row_cmp k y) refl
  where
    less : row_cmp x k ≡ Less
    less = row_cmp_total.antisymm x k ∙ ap ordering_reverse h

    apart : row_cmp x y ≡ Less → put_key k (front_once x (y ∷ ys)) ≡ x ∷ put_key k (y ∷ ys)
    apart f = ap (λ o. put_key k (cond (is_eq o) (x ∷ ys) (x ∷ y ∷ ys))) f ∙ passes k x (y ∷ ys) h

    index : (o : Ordering) → row_cmp k y ≡ o → x ∷ put_key k (y ∷ ys) ≡ x ∷ match_ordering o (k ∷ y ∷ ys) (y ∷ ys) (y ∷ put_key k ys)
    index o e = ap (λ p. x ∷ match_ordering p (k ∷ y ∷ ys) (y ∷ ys) (y ∷ put_key k ys)) e

    go : (o : Ordering) → row_cmp k y ≡ o → front_once x (match_ordering (row_cmp k y) (k ∷ y ∷ ys) (y ∷ ys) (y ∷ put_key k ys)) ≡ put_key k (front_once x (y ∷ ys))
    go Less e =
        ap (λ o. front_once x (match_ordering o (k ∷ y ∷ ys) (y ∷ ys) (y ∷ put_key k ys))) e
        ∙ ap (λ o. cond (is_eq o) (x ∷ y ∷ ys) (x ∷ k ∷ y ∷ ys)) less
        ∙ sym (apart (row_cmp_total.trans x k y less e) ∙ index Less e)
    go Equal e =
        let f : row_cmp x y ≡ Less = ap (row_cmp x) (sym (row_cmp_exact k y e)) ∙ less in
        ap (λ o. front_once x (match_ordering o (k ∷ y ∷ ys) (y ∷ ys) (y ∷ put_key k ys))) e
        ∙ ap (λ o. cond (is_eq o) (x ∷ ys) (x ∷ y ∷ ys)) f
        ∙ sym (apart f ∙ index Equal e)
    go Greater e =
        ap (λ o. front_once x (match_ordering o (k ∷ y ∷ ys) (y ∷ ys) (y ∷ put_key k ys))) e
        ∙ elim (is_eq (row_cmp x y)) as (λ b. cond b (x ∷ put_key k ys) (x ∷ y ∷ put_key k ys) ≡ put_key k (cond b (x ∷ ys) (x ∷ y ∷ ys))) [
          | true ↦ sym (passes k x ys h)
          | false ↦ sym (passes k x (y ∷ ys) h ∙ ap (λ l. x ∷ l) (passes k y ys e))
        ]

put_sorted : (k : Row) (xs : List Row) → without_repeats (insert_sorted row_cmp k xs) ≡ put_key k (without_repeats xs)
put_sorted k [] = refl
put_sorted k (x ∷ xs) = go (row_cmp k x) refl (put_sorted k xs)
  where
    go : (o : Ordering) → row_cmp k x ≡ o → without_repeats (insert_sorted row_cmp k xs) ≡ put_key k (without_repeats xs) →
        without_repeats (cond (is_gt o) (x ∷ insert_sorted row_cmp k xs) (k ∷ x ∷ xs)) ≡ put_key k (front_once x (without_repeats xs))
    go Less e more = before_first k x (without_repeats xs) (ap is_gt e)
    go Equal e more = before_first k x (without_repeats xs) (ap is_gt e)
    go Greater e more = ap (front_once x) more ∙ after_first k x (without_repeats xs) e

-- the keys with one more member
pub each_key_more : (ms : List Member) (m : Member) → each_key (ms ++ m ∷ []) ≡ put_key m.key (each_key ms)
each_key_more ms m =
    ap (λ ks. without_repeats (sorted_by row_cmp ks)) (map-append (λ (n : Member). n.key) ms (m ∷ []))
    ∙ ap without_repeats (sorted_by-IsPermutation row_cmp row_cmp_total row_cmp_exact (keys ms ++ m.key ∷ []) (m.key ∷ keys ms) (IsPermutation-to_front (keys ms) m.key))
    ∙ put_sorted m.key (sorted_by row_cmp (keys ms))

-- ---- a key that is not among them

all_inserted : (P : Row → Type 0) (k : Row) (ls : List Row) → AllByRecursion P (insert_sorted row_cmp k ls) → AllByRecursion P (k ∷ ls)
all_inserted P k [] all = all
all_inserted P k (l ∷ ls) all = go (is_gt (row_cmp k l)) (all_inserted P k ls) all
  where
    go : (b : Bool) → (AllByRecursion P (insert_sorted row_cmp k ls) → AllByRecursion P (k ∷ ls)) → AllByRecursion P (cond b (l ∷ insert_sorted row_cmp k ls) (k ∷ l ∷ ls)) → AllByRecursion P (k ∷ l ∷ ls)
    go true more all = let h = more all.1 in (h.0, (all.0, h.1))
    go false more all = all

all_sorted : (P : Row → Type 0) (ks : List Row) → AllByRecursion P (sorted_by row_cmp ks) → AllByRecursion P ks
all_sorted P [] all = tt
all_sorted P (k ∷ ks) all = let h = all_inserted P k (sorted_by row_cmp ks) all in (h.0, all_sorted P ks h.1)

all_front : (P : Row → Type 0) (k : Row) (ls : List Row) → AllByRecursion P (front_once k ls) → AllByRecursion P (k ∷ ls)
all_front P k [] all = all
all_front P k (l ∷ ls) all = go (row_cmp k l) refl all
  where
    go : (o : Ordering) → row_cmp k l ≡ o → AllByRecursion P (cond (is_eq o) (k ∷ ls) (k ∷ l ∷ ls)) → AllByRecursion P (k ∷ l ∷ ls)
    go Less e h = h
    go Equal e h = (h.0, (subst P (row_cmp_exact k l e) h.0, h.1))
    go Greater e h = h

all_repeated : (P : Row → Type 0) (ks : List Row) → AllByRecursion P (without_repeats ks) → AllByRecursion P ks
all_repeated P [] all = tt
all_repeated P (k ∷ ks) all = let h = all_front P k (without_repeats ks) all in (h.0, all_repeated P ks h.1)

none_has : (k : Row) (ms : List Member) → AllByRecursion (λ l. same_key k l ≡ false) (keys ms) → filter (has_key k) ms ≡ []
none_has k [] all = refl
none_has k (m ∷ ms) all = ap (λ b. cond b (m ∷ filter (has_key k) ms) (filter (has_key k) ms)) ((eq_by_cmp_equiv row_cmp_total).symm m.key k ∙ all.0) ∙ none_has k ms all.1

pub none_has_it : (k : Row) (ms : List Member) → AllByRecursion (λ l. same_key k l ≡ false) (each_key ms) → filter (has_key k) ms ≡ []
none_has_it k ms all = none_has k ms (all_sorted _ (keys ms) (all_repeated _ (sorted_by row_cmp (keys ms)) all))
