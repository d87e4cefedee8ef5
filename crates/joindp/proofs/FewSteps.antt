-- For each step that may follow a set of placed entries one of the few is as good, and each of the few may follow.
use Rattle.std.proofs.Common.{◌≡◌, ◌∙◌, refl, sym, ap, subst, ℕ, zero, suc, ◌+◌, ◌-◌, ◌<◌, ◌≤◌, ◌⊎◌, inl, inr, Bool, true, false, cond, List, [], ◌∷◌, length, filter, Option, Some, None, arith, true≢false}
use Rattle.std.specs.Prelude.{if◌then◌else◌, IfSome}
use Rattle.std.specs.List.{flat_map, range_with_len}
use Rattle.std.proofs.lemmas.Bool.{cases_lt}
use Rattle.expr.specs.declared.bound.ColumnId.{ColumnId}
use Rattle.expr.specs.declared.code.Access.{Access}
use Rattle.expr.specs.declared.code.Method.{Method}
use Rattle.expr.specs.declared.code.Method.TheVariants.{Nested, Hash, Merge}
use Rattle.expr.specs.declared.code.CodeStep.{CodeStep}
use Rattle.expr.specs.Codes.{access_numbers, method_numbers, step_numbers}
use Rattle.stats.specs.Card.{Entries}
use Rattle.trailcheck.specs.Shapes.{entry_index}
use Rattle.trailcheck.specs.Settings.{inner_count}
use Rattle.joins.specs.Orders.{Order, is_ordered_by, merge_sorting, order_of, sides, sorting_unless}
use Rattle.code_costs.specs.Best.{Problem, estimates}
use Rattle.code_costs.specs.Cost.{access_cost, entry_size, join_cost, size}
use Rattle.joindp.specs.FewSteps.{comes_by, few_steps, few_steps_to, few_with, hashes, is_before, least, least_from, lesser, lesser_by, merges, ordered_by_own, reading_numbers, step_by}
use Rattle.joindp.specs.Following.{accesses, all_numbers, is_equality, may_be_next, may_follow, may_join_by, step_of}
use Rattle.joindp.specs.Search.{After, search, set_of}
use Rattle.joindp.specs.Walks.{IsNoLater, IsOneOf}
use Rattle.left_tails.proofs.Before.{IsNoMore, first_is, no_later_after, no_later_under, no_more_itself, no_more_through, other_is}
use Rattle.left_tails.proofs.BestTails.{access_many}
use Rattle.joindp.proofs.Bests.{IsAsGood, as_good_through}
use Rattle.joindp.proofs.Elements.{from_append, from_filter, from_flat_map, from_range, in_filter, in_flat_map, in_left, in_range, in_right}
use Rattle.joindp.proofs.Followed.{all_accesses, allowed, equality_listed, step_follows}
use Rattle.joindp.proofs.NewSteps.{is_new}

-- ---- the least way to read the rows of an entry

module _ (p : Problem) (entry : ℕ) where
  -- the one way costs less than the other, or as much and its numbers are no later
  abbrev pub NoDearer : Access → Access → Type 0
  NoDearer a b = IsNoMore (access_cost (estimates p) entry a) (reading_numbers a) (access_cost (estimates p) entry b) (reading_numbers b)

  no_dearer_through : (a b c : Access) → NoDearer a b → NoDearer b c → NoDearer a c
  no_dearer_through a b c h k =
      no_more_through (access_cost (estimates p) entry a) (access_cost (estimates p) entry b) (access_cost (estimates p) entry c) (reading_numbers a) (reading_numbers b) (reading_numbers c) h k

  -- there is a least way so far, and it is no dearer
  abbrev pub HasNoDearer : Option Access → Access → Type 0
  HasNoDearer None c = ⊥
  HasNoDearer (Some b) c = NoDearer b c

  lesser_kept : (best : Option Access) (a c : Access) → HasNoDearer best c → HasNoDearer (lesser p entry best a) c
  lesser_kept None a c h = absurd h
  lesser_kept (Some b) a c h = go (is_before p entry a b) refl
    where
      go : (t : Bool) → is_before p entry a b ≡ t → NoDearer (if t then a else b) c
      go true e = no_dearer_through a b c (first_is (access_cost (estimates p) entry a) (access_cost (estimates p) entry b) (reading_numbers a) (reading_numbers b) e) h
      go false e = h

  lesser_new : (best : Option Access) (a : Access) → HasNoDearer (lesser p entry best a) a
  lesser_new None a = no_more_itself (access_cost (estimates p) entry a) (reading_numbers a)
  lesser_new (Some b) a = go (is_before p entry a b) refl
    where
      go : (t : Bool) → is_before p entry a b ≡ t → NoDearer (if t then a else b) a
      go true e = no_more_itself (access_cost (estimates p) entry a) (reading_numbers a)
      go false e = other_is (access_cost (estimates p) entry a) (access_cost (estimates p) entry b) (reading_numbers a) (reading_numbers b) e

  least_kept : (column : Option ColumnId) (xs : List Access) (best : Option Access) (c : Access) → HasNoDearer best c → HasNoDearer (least_from p entry column best xs) c
  least_kept column [] best c h = h
  least_kept column (a ∷ xs) best c h = least_kept column xs (lesser_by p entry column best a) c (go (comes_by entry column a))
    where
      go : (t : Bool) → HasNoDearer (if t then lesser p entry best a else best) c
      go true = lesser_kept best a c h
      go false = h

  -- the least of them is no dearer than one that gives the rows in that order
  pub least_of : (column : Option ColumnId) (xs : List Access) (best : Option Access) (c : Access) → IsOneOf xs c → comes_by entry column c ≡ true → HasNoDearer (least_from p entry column best xs) c
  least_of column [] best c h k = absurd h
  least_of column (a ∷ xs) best c (inl same) k =
      subst (HasNoDearer (least_from p entry column (lesser_by p entry column best a) xs)) same (least_kept column xs (lesser_by p entry column best a) a (go (comes_by entry column a) (ap (comes_by entry column) same ∙ k)))
    where
      go : (t : Bool) → t ≡ true → HasNoDearer (if t then lesser p entry best a else best) a
      go true e = lesser_new best a
      go false e = absurd (true≢false (sym e))
  least_of column (a ∷ xs) best c (inr h) k = least_of column xs (lesser_by p entry column best a) c h k

  -- what holds of each that gives the rows in that order holds of the least
  module _ (Q : Access → Type 0) (column : Option ColumnId) where
    pub least_is : (xs : List Access) (best : Option Access) → IfSome best Q → ((a : Access) → IsOneOf xs a → comes_by entry column a ≡ true → Q a) → IfSome (least_from p entry column best xs) Q
    least_is [] best h each = h
    least_is (a ∷ xs) best h each = least_is xs (lesser_by p entry column best a) (go (comes_by entry column a) refl) (λ c one comes. each c (inr one) comes)
      where
        taken : (o : Option Access) → IfSome o Q → Q a → IfSome (lesser p entry o a) Q
        taken None k q = q
        taken (Some b) k q = by (is_before p entry a b)
          where
            by : (t : Bool) → Q (if t then a else b)
            by true = q
            by false = k

        go : (t : Bool) → comes_by entry column a ≡ t → IfSome (if t then lesser p entry best a else best) Q
        go true e = taken best h (each a (inl refl) e)
        go false e = h

-- ---- steps that are as good as others

sorting_no_more : (s t : Bool) (y : ℕ) → (s ≡ true → t ≡ true) → sorting_unless t y ≤ sorting_unless s y
sorting_no_more true true y h = omega arith
sorting_no_more true false y h = absurd (true≢false (sym (h refl)))
sorting_no_more false true y h = omega arith
sorting_no_more false false y h = omega arith

no_more_sum : (j k c d : ℕ) (xs ys us vs : List ℕ) → j ≤ k → (IsNoLater xs ys → IsNoLater us vs) → IsNoMore c xs d ys → IsNoMore (j + c) us (k + d) vs
no_more_sum j k c d xs ys us vs le f (inl a) = inl (omega arith)
no_more_sum j k c d xs ys us vs le f (inr a) = go (cases_lt j k)
  where
    go : (j < k) ⊎ (k ≤ j) → IsNoMore (j + c) us (k + d) vs
    go (inl less) = inl (omega (arith, a.0))
    go (inr more) = inr (omega (arith, a.0), f a.1)

index_is : (i : ℕ) → i + 1 - 1 ≡ i
index_is i = omega arith

-- the numbers of steps that differ in the way to read rows
numbers_under : (i : ℕ) (a b : Access) (m : Method) → IsNoLater (reading_numbers b) (reading_numbers a) → IsNoLater (step_numbers (step_of i b m)) (step_numbers (step_of i a m))
numbers_under i a b m (inl less) = absurd (omega arith)
numbers_under i a b m (inr h) = inr (refl, no_later_under (access_numbers b) (access_numbers a) (0 ∷ 0 ∷ []) (method_numbers m) (access_many b ∙ sym (access_many a)) h.1)

module _ (p : Problem) where
  -- the one way gives the rows in the order that a merge asks for where the other does
  abbrev Serves : (entry : ℕ) → Access → Access → Method → Type 0
  Serves entry b a Nested = Unit {0}
  Serves entry b a (Hash conjunct) = Unit {0}
  Serves entry b a (Merge conjunct) = (placed own : ColumnId) → sides p.setting.conditions entry conjunct ≡ Some (placed, own) → is_ordered_by (order_of entry a) own ≡ true → is_ordered_by (order_of entry b) own ≡ true

  merge_no_more : (entry x y : ℕ) (order : Order) (a b : Access) (o : Option (ColumnId × ColumnId)) → ((placed own : ColumnId) → o ≡ Some (placed, own) → is_ordered_by (order_of entry a) own ≡ true → is_ordered_by (order_of entry b) own ≡ true)
      → x + y + merge_sorting order (order_of entry b) x y o ≤ x + y + merge_sorting order (order_of entry a) x y o
  merge_no_more entry x y order a b None serves = omega arith
  merge_no_more entry x y order a b (Some (placed, own)) serves =
      let le = sorting_no_more (is_ordered_by (order_of entry a) own) (is_ordered_by (order_of entry b) own) y (serves placed own refl) in omega (arith, le)

  join_no_more : (i entry x y : ℕ) (order : Order) (a b : Access) (m : Method) → i + 1 - 1 ≡ entry → Serves entry b a m → join_cost (estimates p) x y order (step_of i b m) m ≤ join_cost (estimates p) x y order (step_of i a m) m
  join_no_more i entry x y order a b Nested e serves = omega arith
  join_no_more i entry x y order a b (Hash conjunct) e serves = omega arith
  join_no_more i entry x y order a b (Merge conjunct) e serves =
      subst (λ k. x + y + merge_sorting order (order_of k b) x y (sides p.setting.conditions k conjunct) ≤ x + y + merge_sorting order (order_of k a) x y (sides p.setting.conditions k conjunct)) (sym e)
      (merge_no_more entry x y order a b (sides p.setting.conditions entry conjunct) serves)

  module _ (set : ℕ) (order : Order) (i : ℕ) where
    -- a way to read the rows that is no dearer
    access_as_good : (a b : Access) (m : Method) → may_follow p.setting (set_of set) (step_of i b m) ≡ true → NoDearer p i b a → Serves i b a m → IsAsGood (search p) (After set order) (step_of i b m) (step_of i a m)
    access_as_good a b m may cheaper serves = record {
      allowed = may;
      next = refl;
      cost =
          no_more_sum (join_cost (estimates p) (size (estimates p) (set_of set)) (entry_size (estimates p) (i + 1 - 1)) order (step_of i b m) m) (join_cost (estimates p) (size (estimates p) (set_of set)) (entry_size (estimates p) (i + 1 - 1)) order (step_of i a m) m)
          (access_cost (estimates p) (i + 1 - 1) b) (access_cost (estimates p) (i + 1 - 1) a) (reading_numbers b) (reading_numbers a) (step_numbers (step_of i b m)) (step_numbers (step_of i a m))
          (join_no_more i i (size (estimates p) (set_of set)) (entry_size (estimates p) (i + 1 - 1)) order a b m (index_is i) serves) (numbers_under i a b m) (subst (λ k. NoDearer p k b a) (sym (index_is i)) cheaper);
    }

    -- a hash table by a lesser number
    hash_as_good : (a : Access) (k n : ℕ) → may_follow p.setting (set_of set) (step_of i a (Hash k)) ≡ true → k ≤ n → IsAsGood (search p) (After set order) (step_of i a (Hash k)) (step_of i a (Hash n))
    hash_as_good a k n may le = record { allowed = may; next = refl; cost = inr (refl, no_later_after ((i + 1) ∷ access_numbers a) (1 ∷ k ∷ []) (1 ∷ n ∷ []) (inr (refl, go (cases_lt k n)))) }
      where
        go : (k < n) ⊎ (n ≤ k) → IsNoLater (k ∷ []) (n ∷ [])
        go (inl less) = inl less
        go (inr more) = inr (omega arith, tt)

-- ---- one of the few is as good

none_some : (s : ColumnId × ColumnId) → None ≡ Some s → ⊥
none_some s e = cc

same_own : (s t : ColumnId × ColumnId) → Some s ≡ Some t → s.1 ≡ t.1
same_own s t e = let same : s ≡ t = cc in ap (λ (x : ColumnId × ColumnId). x.1) same

-- of numbers that pass a test the first is the least
first_passing : (i : ℕ) (b : Access) (test : ℕ → Bool) (a n j : ℕ) → IsOneOf (filter test (range_with_len a n)) j
    → (k : ℕ) × (k ≤ j) × IsOneOf (filter test (range_with_len a n)) k × IsOneOf (hashes i b (filter test (range_with_len a n))) (step_of i b (Hash k))
first_passing i b test a zero j h = absurd h
first_passing i b test a (suc n) j h = go (test a) h (first_passing i b test (a + 1) n j)
  where
    go : (t : Bool) → IsOneOf (cond t (a ∷ filter test (range_with_len (a + 1) n)) (filter test (range_with_len (a + 1) n))) j
        → (IsOneOf (filter test (range_with_len (a + 1) n)) j → (k : ℕ) × (k ≤ j) × IsOneOf (filter test (range_with_len (a + 1) n)) k × IsOneOf (hashes i b (filter test (range_with_len (a + 1) n))) (step_of i b (Hash k)))
        → (k : ℕ) × (k ≤ j) × IsOneOf (cond t (a ∷ filter test (range_with_len (a + 1) n)) (filter test (range_with_len (a + 1) n))) k
        × IsOneOf (hashes i b (cond t (a ∷ filter test (range_with_len (a + 1) n)) (filter test (range_with_len (a + 1) n)))) (step_of i b (Hash k))
    go true (inl same) rest = (a, omega arith, inl refl, inl refl)
    go true (inr there) rest = let r = from_range (a + 1) n j (from_filter test (range_with_len (a + 1) n) j there).0 in (a, omega (arith, r.0), inl refl, inl refl)
    go false there rest = rest there

module _ (p : Problem) (set : ℕ) (order : Order) (i : ℕ) (within : i < inner_count p.setting) (next : may_be_next p.setting (set_of set) i ≡ true) where
  abbrev ways : List Access
  ways = accesses p.setting i

  abbrev equal : List ℕ
  equal = filter (is_equality p.setting (set_of set) i) (all_numbers p.setting)

  follows : (a : Access) (m : Method) → IsOneOf ways a → may_join_by p.setting (set_of set) i m ≡ true → may_follow p.setting (set_of set) (step_of i a m) ≡ true
  follows a m one joins = step_follows p.setting (set_of set) i a m within next (allowed p.setting i a one) joins

  abbrev AsGood : (few : List CodeStep) → CodeStep → Type 0
  AsGood few c = (d : CodeStep) × IsOneOf few d × IsAsGood (search p) (After set order) d c

  -- where b is the cheapest way
  module _ (b : Access) (one : IsOneOf ways b) where
    -- by a merge
    merged : (a : Access) (k : ℕ) → IsOneOf ways a → NoDearer p i b a → may_join_by p.setting (set_of set) i (Merge k) ≡ true → AsGood (merges p i ways b k) (step_of i a (Merge k))
    merged a k listed cheaper joins = go (sides p.setting.conditions i k) refl
      where
        -- the least way that gives the rows in order
        by : (placed own : ColumnId) → sides p.setting.conditions i k ≡ Some (placed, own) → (o : Option Access) → HasNoDearer p i o a → IfSome o (λ x. IsOneOf ways x × (is_ordered_by (order_of i x) own ≡ true)) → AsGood (step_of i b (Merge k) ∷ step_by i (Merge k) o) (step_of i a (Merge k))
        by placed own s None least is = absurd least
        by placed own s (Some x) least is = (
          step_of i x (Merge k),
          inr (inl refl),
          access_as_good p set order i a x (Merge k) (follows x (Merge k) is.0 joins) least (λ placed' own' s' _.
              let same : own ≡ own' = same_own (placed, own) (placed', own') (sym s ∙ s') in
              subst (λ id. is_ordered_by (order_of i x) id ≡ true) same is.1),
        )

        -- the cheapest way
        cheapest : (few : List CodeStep) → ((placed own : ColumnId) → sides p.setting.conditions i k ≡ Some (placed, own) → is_ordered_by (order_of i a) own ≡ true → is_ordered_by (order_of i b) own ≡ true) → AsGood (step_of i b (Merge k) ∷ few) (step_of i a (Merge k))
        cheapest few serves = (step_of i b (Merge k), inl refl, access_as_good p set order i a b (Merge k) (follows b (Merge k) one joins) cheaper serves)

        choose : (placed own : ColumnId) → sides p.setting.conditions i k ≡ Some (placed, own) → (s t : Bool) → is_ordered_by (order_of i a) own ≡ s → is_ordered_by (order_of i b) own ≡ t
            → AsGood (step_of i b (Merge k) ∷ step_by i (Merge k) (if t then None else least p i (Some own) ways)) (step_of i a (Merge k))
        choose placed own s true false ea eb =
            by placed own s (least p i (Some own) ways) (least_of p i (Some own) ways None a listed ea) (least_is p i (λ x. IsOneOf ways x × (is_ordered_by (order_of i x) own ≡ true)) (Some own) ways None tt (λ x w c. (w, c)))
        choose placed own s true true ea eb = cheapest [] (λ placed' own' s' _. let same : own ≡ own' = same_own (placed, own) (placed', own') (sym s ∙ s') in subst (λ id. is_ordered_by (order_of i b) id ≡ true) same eb)
        choose placed own s false t ea eb = cheapest (step_by i (Merge k) (if t then None else least p i (Some own) ways)) (λ placed' own' s' h.
            let same : own ≡ own' = same_own (placed, own) (placed', own') (sym s ∙ s') in
            absurd (true≢false (sym h ∙ sym (ap (is_ordered_by (order_of i a)) same) ∙ ea)))

        go : (o : Option (ColumnId × ColumnId)) → sides p.setting.conditions i k ≡ o → AsGood (step_of i b (Merge k) ∷ step_by i (Merge k) (ordered_by_own p i ways b o)) (step_of i a (Merge k))
        go None e = cheapest [] (λ placed own s h. absurd (none_some (placed, own) (sym e ∙ s)))
        go (Some (placed, own)) e = choose placed own e (is_ordered_by (order_of i a) own) (is_ordered_by (order_of i b) own) refl refl

    by_cheapest : (a : Access) (m : Method) → IsOneOf ways a → NoDearer p i b a → may_join_by p.setting (set_of set) i m ≡ true → AsGood (few_with p i ways equal (Some b)) (step_of i a m)
    by_cheapest a Nested listed cheaper joins = (step_of i b Nested, inl refl, access_as_good p set order i a b Nested (follows b Nested one joins) cheaper tt)
    by_cheapest a (Hash n) listed cheaper joins =
        let f = first_passing i b (is_equality p.setting (set_of set) i) 1 (length p.setting.conditions) n (equality_listed p.setting (set_of set) i n joins) in
        let k = from_filter (is_equality p.setting (set_of set) i) (all_numbers p.setting) f.0 f.2 in (
          step_of i b (Hash f.0),
          inr (in_left (hashes i b equal) (flat_map (merges p i ways b) equal) (step_of i b (Hash f.0)) f.3),
          as_good_through (search p) (After set order) (step_of i b (Hash f.0)) (step_of i b (Hash n)) (step_of i a (Hash n)) (hash_as_good p set order i b f.0 n (follows b (Hash f.0) one k.1) f.1)
              (access_as_good p set order i a b (Hash n) (follows b (Hash n) one joins) cheaper tt),
        )
    by_cheapest a (Merge n) listed cheaper joins =
        let m = merged a n listed cheaper joins in (
          m.0,
          inr (in_right (hashes i b equal) (flat_map (merges p i ways b) equal) m.0 (in_flat_map (merges p i ways b) equal n m.0 (equality_listed p.setting (set_of set) i n joins) m.1)),
          m.2,
        )

  to_entry : (a : Access) (m : Method) → IsOneOf ways a → may_join_by p.setting (set_of set) i m ≡ true → AsGood (few_steps_to p (set_of set) i) (step_of i a m)
  to_entry a m listed joins = go (least p i None ways) (least_of p i None ways None a listed refl) (least_is p i (IsOneOf ways) None ways None tt (λ x w _. w))
    where
      go : (o : Option Access) → HasNoDearer p i o a → IfSome o (IsOneOf ways) → AsGood (few_with p i ways equal o) (step_of i a m)
      go None h one = absurd h
      go (Some b) h one = by_cheapest b one a m listed h joins

-- for each step that may follow, one of the few is as good
pub enough : (p : Problem) (set : ℕ) (order : Order) (c : CodeStep) → may_follow p.setting (set_of set) c ≡ true → (d : CodeStep) × IsOneOf (few_steps p (set_of set)) d × IsAsGood (search p) (After set order) d c
enough p set order c may =
    let new = is_new p.setting (set_of set) c may in
    let i : ℕ = entry_index c in
    let number : i + 1 ≡ c.entry = let one = new.from_one in omega (arith, one) in
    let same : step_of i c.access c.method ≡ c = ap (λ (n : ℕ). let t : CodeStep = record { entry = n; access = c.access; method = c.method } in t) number in
    let to = to_entry p set order i new.below new.next c.access c.method (all_accesses p.setting i c.access new.access) new.method in (
      to.0,
      in_flat_map (few_steps_to p (set_of set)) (filter (may_be_next p.setting (set_of set)) (range_with_len 0 (inner_count p.setting))) i to.0
          (in_filter (may_be_next p.setting (set_of set)) (range_with_len 0 (inner_count p.setting)) i (in_range 0 (inner_count p.setting) i (omega arith) (omega (arith, new.below))) new.next) to.1,
      subst (IsAsGood (search p) (After set order) to.0) same to.2,
    )

-- ---- each of the few may follow

module _ (p : Problem) (placed : Entries) (i : ℕ) (within : i < inner_count p.setting) (next : may_be_next p.setting placed i ≡ true) where
  abbrev all_ways : List Access
  all_ways = accesses p.setting i

  abbrev all_equal : List ℕ
  all_equal = filter (is_equality p.setting placed i) (all_numbers p.setting)

  may : (a : Access) (m : Method) (c : CodeStep) → IsOneOf all_ways a → may_join_by p.setting placed i m ≡ true → step_of i a m ≡ c → may_follow p.setting placed c ≡ true
  may a m c one joins same = subst (λ s. may_follow p.setting placed s ≡ true) same (step_follows p.setting placed i a m within next (allowed p.setting i a one) joins)

  module _ (b : Access) (one : IsOneOf all_ways b) (c : CodeStep) where
    hash_may : (ks : List ℕ) → ((k : ℕ) → IsOneOf ks k → is_equality p.setting placed i k ≡ true) → IsOneOf (hashes i b ks) c → may_follow p.setting placed c ≡ true
    hash_may [] each h = absurd h
    hash_may (k ∷ ks) each (inl same) = may b (Hash k) c one (each k (inl refl)) same
    hash_may (k ∷ ks) each (inr h) = absurd h

    merge_may : (k : ℕ) → is_equality p.setting placed i k ≡ true → IsOneOf (merges p i all_ways b k) c → may_follow p.setting placed c ≡ true
    merge_may k joins (inl same) = may b (Merge k) c one joins same
    merge_may k joins (inr h) = go (sides p.setting.conditions i k) h
      where
        by : (o : Option Access) → IfSome o (IsOneOf all_ways) → IsOneOf (step_by i (Merge k) o) c → may_follow p.setting placed c ≡ true
        by None is there = absurd there
        by (Some x) is (inl same) = may x (Merge k) c is joins same
        by (Some x) is (inr there) = absurd there

        choose : (own : ColumnId) (t : Bool) → IsOneOf (step_by i (Merge k) (if t then None else least p i (Some own) all_ways)) c → may_follow p.setting placed c ≡ true
        choose own true there = absurd there
        choose own false there = by (least p i (Some own) all_ways) (least_is p i (IsOneOf all_ways) (Some own) all_ways None tt (λ x w _. w)) there

        go : (o : Option (ColumnId × ColumnId)) → IsOneOf (step_by i (Merge k) (ordered_by_own p i all_ways b o)) c → may_follow p.setting placed c ≡ true
        go None there = absurd there
        go (Some (placed', own)) there = choose own (is_ordered_by (order_of i b) own) there

    with_cheapest : IsOneOf (few_with p i all_ways all_equal (Some b)) c → may_follow p.setting placed c ≡ true
    with_cheapest (inl same) = may b Nested c one refl same
    with_cheapest (inr h) = go (from_append (hashes i b all_equal) (flat_map (merges p i all_ways b) all_equal) c h)
      where
        joins : (k : ℕ) → IsOneOf all_equal k → is_equality p.setting placed i k ≡ true
        joins k listed = (from_filter (is_equality p.setting placed i) (all_numbers p.setting) k listed).1

        go : IsOneOf (hashes i b all_equal) c ⊎ IsOneOf (flat_map (merges p i all_ways b) all_equal) c → may_follow p.setting placed c ≡ true
        go (inl there) = hash_may all_equal joins there
        go (inr there) = let m = from_flat_map (merges p i all_ways b) all_equal c there in merge_may m.0 (joins m.0 m.1) m.2

  entry_may : (c : CodeStep) → IsOneOf (few_steps_to p placed i) c → may_follow p.setting placed c ≡ true
  entry_may c h = go (least p i None all_ways) (least_is p i (IsOneOf all_ways) None all_ways None tt (λ x w _. w)) h
    where
      go : (o : Option Access) → IfSome o (IsOneOf all_ways) → IsOneOf (few_with p i all_ways all_equal o) c → may_follow p.setting placed c ≡ true
      go None is there = absurd there
      go (Some b) is there = with_cheapest b is c there

pub few_follow : (p : Problem) (placed : Entries) (c : CodeStep) → IsOneOf (few_steps p placed) c → may_follow p.setting placed c ≡ true
few_follow p placed c h =
    let f = from_flat_map (few_steps_to p placed) (filter (may_be_next p.setting placed) (range_with_len 0 (inner_count p.setting))) c h in
    let k = from_filter (may_be_next p.setting placed) (range_with_len 0 (inner_count p.setting)) f.0 f.1 in
    let r = from_range 0 (inner_count p.setting) f.0 k.0 in
    entry_may p placed f.0 (omega (arith, r.1)) k.1 c f.2
