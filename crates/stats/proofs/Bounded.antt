-- Numbers lie within their bounds.
use Rattle.std.proofs.Common.{◌≡◌, Bool, true, false, cond, ℕ, ℤ, pos, ◌+ℤ◌, ◌≤ℤ◌, ◌<ℤ◌, All, List, [], ◌∷◌, length, refl, sym, ap, ◌∙◌, subst, arith, Ordering, Less, Equal, Greater, is_gt, true≢false, Option, Some, None}
use Rattle.std.specs.Cmp.{IsTotalOrder, int_ranks}
use Rattle.std.specs.List.{AllByRecursion}
use Rattle.std.specs.Ordering.{MatchOrdering, int_cmp, ordering_reverse}
use Rattle.std.proofs.lemmas.Cmp.{back_total, int_cmp_total, tied_itself, upto}
use Rattle.std.proofs.lemmas.Int.{ints}
use Rattle.std.proofs.lemmas.List.Elements.{All-from_recursion, All-weaker}
use Rattle.bags.specs.Least.{lesser, least}
use Rattle.bags.proofs.Order.{all_weaker}
use Rattle.stats.specs.declared.statistics.Bounds.{Bounds}
use Rattle.stats.specs.Repeats.{without_repeats}
use Rattle.stats.specs.Statistics.{between, bounds_of, greatest}

module _ (cmp : ℤ → ℤ → Ordering) (total : IsTotalOrder cmp) where
  abbrev NoneLess : ℤ → List ℤ → Type 0
  NoneLess m xs = AllByRecursion (λ x. is_gt (cmp m x) ≡ false) xs

  none_there : (m : ℤ) (xs : List ℤ) → least cmp xs ≡ None → NoneLess m xs
  none_there m [] e = tt
  none_there m (x ∷ xs) e = absurd (go (least cmp xs) e)
    where
      go : (o : Option ℤ) → lesser cmp (Some x) o ≡ None → ⊥
      go None e = cc
      go (Some y) e = cc

  turned : (o : Ordering) → is_gt o ≡ true → is_gt (ordering_reverse o) ≡ false
  turned Less e = absurd (true≢false (sym e))
  turned Equal e = absurd (true≢false (sym e))
  turned Greater e = refl

  none_less : (m : ℤ) (xs : List ℤ) → least cmp xs ≡ Some m → NoneLess m xs
  none_less m [] e = tt
  none_less m (x ∷ xs) e = go (least cmp xs) refl (λ l. none_less l xs) e
    where
      pick : (l : ℤ) (b : Bool) → is_gt (cmp x l) ≡ b → NoneLess l xs → Some (cond b l x) ≡ Some m → NoneLess m (x ∷ xs)
      pick l true gt rest same = let s : l ≡ m = cc in subst (λ (n : ℤ). NoneLess n (x ∷ xs)) s (ap is_gt (total.antisymm l x) ∙ turned _ gt, rest)
      pick l false gt rest same = let s : x ≡ m = cc in subst (λ (n : ℤ). NoneLess n (x ∷ xs)) s (ap is_gt (tied_itself total x), all_weaker _ (λ y. is_gt (cmp x y) ≡ false) (λ y. upto total x l y gt) xs rest)

      go : (o : Option ℤ) → least cmp xs ≡ o → ((l : ℤ) → least cmp xs ≡ Some l → NoneLess l xs) → lesser cmp (Some x) o ≡ Some m → NoneLess m (x ∷ xs)
      go None none rest same = let s : x ≡ m = cc in subst (λ (n : ℤ). NoneLess n (x ∷ xs)) s (ap is_gt (tied_itself total x), none_there x xs none)
      go (Some l) some rest same = pick l (is_gt (cmp x l)) refl (rest l some) same

at_most : (m x : ℤ) → is_gt (int_cmp m x) ≡ false → m ≤ℤ x
at_most m x = go (int_cmp m x) (int_ranks m x)
  where
    go : (o : Ordering) → MatchOrdering o (m <ℤ x) (m ≡ x) (x <ℤ m) → is_gt o ≡ false → m ≤ℤ x
    go Less r e = omega (arith, ints, r)
    go Equal r e = omega (arith, ints, r)
    go Greater r e = absurd (true≢false e)

-- each number lies between the two
abbrev AreWithin : Bounds → List ℤ → Type 0
AreWithin b ns = All (λ n. (b.least ≤ℤ n) × (n ≤ℤ b.greatest)) ns

within_bounds : (ns : List ℤ) (b : Bounds) → Some b ≡ bounds_of ns → AreWithin b ns
within_bounds ns b is = go (least int_cmp ns) (greatest int_cmp ns) refl refl is
  where
    join : (low high : ℤ) (xs : List ℤ) → NoneLess int_cmp int_cmp_total low xs → NoneLess (λ x y. int_cmp y x) (back_total int_cmp_total) high xs → AllByRecursion (λ n. (low ≤ℤ n) × (n ≤ℤ high)) xs
    join low high [] f h = tt
    join low high (x ∷ xs) f h = ((at_most low x f.0, at_most x high h.0), join low high xs f.1 h.1)

    go : (low high : Option ℤ) → least int_cmp ns ≡ low → greatest int_cmp ns ≡ high → Some b ≡ between low high → AreWithin b ns
    go None high e h same = absurd (cc)
    go (Some low) None e h same = absurd (cc)
    go (Some low) (Some high) e h same =
        let s : b ≡ record { least = low; greatest = high } = cc in
        rw s (All-from_recursion (λ n. (low ≤ℤ n) × (n ≤ℤ high)) ns (join low high ns (none_less int_cmp int_cmp_total low ns e) (none_less (λ x y. int_cmp y x) (back_total int_cmp_total) high ns h)))

-- so many places from the least on reach each number
pub places_reach : (ns : List ℤ) (b : Bounds) (low : ℤ) (places : ℕ) → Some b ≡ bounds_of ns → low ≡ b.least → b.greatest <ℤ (b.least +ℤ pos places) → All (λ n. (low ≤ℤ n) × (n <ℤ (low +ℤ pos places))) ns
places_reach ns b low places is same far = All-weaker (λ n. (b.least ≤ℤ n) × (n ≤ℤ b.greatest)) (λ n. (low ≤ℤ n) × (n <ℤ (low +ℤ pos places))) (λ n within. rw same (within.0, omega (arith, ints, within, far))) ns (within_bounds ns b is)

-- no bounds, no numbers
pub none_bounded : (ns : List ℤ) → None ≡ bounds_of ns → length (without_repeats int_cmp ns) ≡ 0
none_bounded [] is = refl
none_bounded (n ∷ ns) is = absurd (go (least int_cmp ns) (greatest int_cmp ns) is)
  where
    go : (low high : Option ℤ) → None ≡ between (lesser int_cmp (Some n) low) (lesser (λ x y. int_cmp y x) (Some n) high) → ⊥
    go None None e = cc
    go None (Some high) e = cc
    go (Some low) None e = cc
    go (Some low) (Some high) e = cc
