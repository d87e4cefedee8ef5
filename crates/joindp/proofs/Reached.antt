-- The sets that codes place, and the orders in which their combinations come: both go on after a step.
use Rattle.std.proofs.Common.{◌≡◌, ◌≢◌, ◌∙◌, refl, sym, ap, subst, if◌then◌else◌, ℕ, zero, suc, ◌+◌, ◌-◌, ◌^◌, ◌<◌, ◌≤◌, ◌⊎◌, inl, inr, Bool, true, false, ◌&&◌, ◌||◌, ◌==◌, nat_lt, List, [], ◌∷◌, ◌++◌, length, option_map, Option, Some, None, slice_index_or, arith, true≢false}
use mathlib.Core.Path.{fun_ext}
use Rattle.std.specs.List.{list_any, range_with_len}
use Rattle.std.proofs.Math.ListN.{get_or-append}
use Rattle.std.proofs.lemmas.Bool.{both_ways, cases_order, eq-eqb, eqb-true, le-ltb, lt-ltb, ne_eqb, or_cases, or_left, or_right}
use Rattle.std.proofs.lemmas.Nat.{pow_pos}
use Rattle.expr.specs.declared.bound.ColumnId.{ColumnId}
use Rattle.expr.specs.declared.code.Access.{Access}
use Rattle.expr.specs.declared.code.Access.TheVariants.{Full, Index, Range}
use Rattle.expr.specs.declared.code.Method.{Method}
use Rattle.expr.specs.declared.code.Method.TheVariants.{Nested, Hash, Merge}
use Rattle.expr.specs.declared.code.CodeStep.{CodeStep}
use Rattle.expr.specs.Bound.{BoundExpr}
use Rattle.predicates.proofs.Movables.{and_left, and_right}
use Rattle.predicates.proofs.Keeping.{both}
use Rattle.predicates.specs.Equalities.{column_sides}
use Rattle.stats.specs.Card.{Entries}
use Rattle.trailcheck.specs.Admissible.{is_some_and}
use Rattle.trailcheck.specs.Shapes.{entry_index}
use Rattle.code_costs.specs.Best.{Problem}
use Rattle.predicates.specs.Numbered.{numbered}
use Rattle.joins.specs.Orders.{Order, facing, merged_order, order_after, order_of, sides_held}
use Rattle.joindp.specs.Following.{equates_with, may_be_next, may_follow, may_join_by, span}
use Rattle.joindp.specs.Search.{AreNexts, entry_count, is_last, is_order_of, is_reached, set_of}
use Rattle.joindp.proofs.NewSteps.{is_new}
use Rattle.joindp.proofs.OneBit.{lone_bit, no_bit, one_more_bit}

-- ---- sets

any_in_range : (f : ℕ → Bool) (i : ℕ) → f i ≡ true → (a n : ℕ) → a ≤ i → i < a + n → list_any f (range_with_len a n) ≡ true
any_in_range f i h a zero from below = absurd (omega arith)
any_in_range f i h a (suc n) from below = go (a == i) refl (λ above. any_in_range f i h (a + 1) n above (omega arith))
  where
    go : (b : Bool) → (a == i) ≡ b → (a + 1 ≤ i → list_any f (range_with_len (a + 1) n) ≡ true) → f a || list_any f (range_with_len (a + 1) n) ≡ true
    go true e rest = or_left (f a) (list_any f (range_with_len (a + 1) n)) (ap f (eqb-true a i e) ∙ h)
    go false e rest = or_right (f a) (list_any f (range_with_len (a + 1) n)) (rest (let d : a ≢ i = λ s. both_ways (a == i) e (eq-eqb a i s) in omega (arith, d)))

-- a set with one entry more, which may be the next one after it
pub reached_more : (p : Problem) (nexts : List ℕ) → AreNexts p nexts → entry_count p ≤ 12 → (set i : ℕ) → set < 2 ^ entry_count p → i < entry_count p → set_of set i ≡ false → may_be_next p.setting (set_of set) i ≡ true → is_reached (entry_count p) nexts set ≡ true
    → is_reached (entry_count p) nexts (set + 2 ^ i) ≡ true
reached_more p nexts are few set i within below new may reached =
    let there : set_of (set + 2 ^ i) i ≡ true = one_more_bit set i i (omega arith) new ∙ or_left (i == i) (set_of set i) (eq-eqb i i refl) in
    let back : set + 2 ^ i - 2 ^ i ≡ set = omega arith in
    let next : set_of (slice_index_or nexts set 0) i ≡ true = are.1 set within reached i ∙ both (nat_lt i (entry_count p)) (may_be_next p.setting (set_of set) i) (lt-ltb i (entry_count p) below) may in
    let last : is_last nexts (set + 2 ^ i) i ≡ true = both (set_of (set + 2 ^ i) i) (set_of (slice_index_or nexts (set + 2 ^ i - 2 ^ i) 0) i) there (ap (λ k. set_of (slice_index_or nexts k 0) i) back ∙ next) in
    or_right (set + 2 ^ i == 0) (list_any (is_last nexts (set + 2 ^ i)) (range_with_len 0 (entry_count p))) (any_in_range (is_last nexts (set + 2 ^ i)) i last 0 (entry_count p) (omega arith) (omega arith))

pub reached_after : (p : Problem) (nexts : List ℕ) → AreNexts p nexts → entry_count p ≤ 12 → (set : ℕ) (s : CodeStep) → set < 2 ^ entry_count p → may_follow p.setting (set_of set) s ≡ true → is_reached (entry_count p) nexts set ≡ true → is_reached (entry_count p) nexts (set + 2 ^ entry_index s) ≡ true
reached_after p nexts are few set s within may reached =
    let new = is_new p.setting (set_of set) s may in
    reached_more p nexts are few set (entry_index s) within new.below new.new new.next reached

-- the first entry
pub reached_first : (p : Problem) (nexts : List ℕ) → AreNexts p nexts → entry_count p ≤ 12 → (s : CodeStep) → may_follow p.setting (λ entry. false) s ≡ true → is_reached (entry_count p) nexts (2 ^ entry_index s) ≡ true
reached_first p nexts are few s may =
    let none : (λ (entry : ℕ). false) ≡ set_of 0 = fun_ext (λ k. sym (no_bit k)) in
    let from : may_follow p.setting (set_of 0) s ≡ true = sym (ap (λ (e : Entries). may_follow p.setting e s) none) ∙ may in
    let e : 0 + 2 ^ entry_index s ≡ 2 ^ entry_index s = omega arith in
    subst (λ set. is_reached (entry_count p) nexts set ≡ true) e (reached_after p nexts are few 0 s (pow_pos (entry_count p)) from refl)

-- a list with one more at its end: what is reached among its first sets stays so
pub reached_pushed : (count : ℕ) (xs : List ℕ) (x set : ℕ) → set ≤ length xs → is_reached count (xs ++ x ∷ []) set ≡ is_reached count xs set
reached_pushed count xs x zero within = refl
reached_pushed count xs x (suc k) within = ap (λ (f : ℕ → Bool). (suc k == 0) || list_any f (range_with_len 0 count)) (fun_ext same)
  where
    same : (entry : ℕ) → is_last (xs ++ x ∷ []) (suc k) entry ≡ is_last xs (suc k) entry
    same entry = let p = pow_pos entry in ap (λ bits. set_of (suc k) entry && set_of bits entry) (get_or-append xs (x ∷ []) 0 (suc k - 2 ^ entry) (omega (arith, p)))

-- ---- orders

module _ (set i : ℕ) (small : i < 64) (new : set_of set i ≡ false) where
  -- an entry of the set is one of it with one more
  still_in : (e : ℕ) → set_of set e ≡ true → set_of (set + 2 ^ i) e ≡ true
  still_in e h = one_more_bit set i e small new ∙ or_right (i == e) (set_of set e) h

  still_order : (order : Order) → is_order_of set order ≡ true → is_order_of (set + 2 ^ i) order ≡ true
  still_order None h = refl
  still_order (Some id) h = still_in id.entry h

  -- of two columns that span the set and the entry, that of the set is faced
  faced : (a b : ColumnId) → span (set_of set) i (Some (a, b)) ≡ true → set_of set (facing i (a, b)).0.entry ≡ true
  faced a b h = go (b.entry == i) refl (or_cases (set_of set a.entry && (b.entry == i)) ((a.entry == i) && set_of set b.entry) h)
    where
      swapped : Bool → ColumnId × ColumnId
      swapped c = if c then (a, b) else (b, a)

      go : (c : Bool) → (b.entry == i) ≡ c → ((set_of set a.entry && (b.entry == i)) ≡ true) ⊎ (((a.entry == i) && set_of set b.entry) ≡ true) → set_of set (swapped c).0.entry ≡ true
      go true e (inl k) = and_left (set_of set a.entry) (b.entry == i) k
      go true e (inr k) = absurd (both_ways (set_of set i) new (ap (set_of set) (sym (eqb-true b.entry i e)) ∙ and_right (a.entry == i) (set_of set b.entry) k))
      go false e (inl k) = absurd (both_ways (b.entry == i) e (and_right (set_of set a.entry) (b.entry == i) k))
      go false e (inr k) = and_right (a.entry == i) (set_of set b.entry) k

  merged_in : (o : Option BoundExpr) → is_some_and (equates_with (set_of set) i) o ≡ true → is_order_of (set + 2 ^ i) (merged_order (sides_held i o)) ≡ true
  merged_in None h = absurd (true≢false (sym h))
  merged_in (Some c) h = go (column_sides c) h
    where
      go : (q : Option (ColumnId × ColumnId)) → span (set_of set) i q ≡ true → is_order_of (set + 2 ^ i) (merged_order (option_map (facing i) q)) ≡ true
      go None k = absurd (true≢false (sym k))
      go (Some ids) k = still_in (facing i ids).0.entry (faced ids.0 ids.1 k)

  -- the order after a join is one of the set after it
  pub order_fits : (p : Problem) (order : Order) (m : Method) → is_order_of set order ≡ true → may_join_by p.setting (set_of set) i m ≡ true → is_order_of (set + 2 ^ i) (order_after p.setting.conditions i order m) ≡ true
  order_fits p order Nested h k = still_order order h
  order_fits p order (Hash conjunct) h k = still_order order h
  order_fits p order (Merge conjunct) h k = merged_in (numbered p.setting.conditions conjunct) k

-- the order of the first entry's index is one of its set
pub first_fits : (i : ℕ) (a : Access) → i < 64 → is_order_of (2 ^ i) (order_of i a) ≡ true
first_fits i Full small = refl
first_fits i (Index c) small = lone_bit i i small ∙ eq-eqb i i refl
first_fits i (Range c b) small = lone_bit i i small ∙ eq-eqb i i refl

-- ---- the entries that may be next, one after another

pub next_more : (m : ℕ → Bool) (e i : ℕ) (may : Bool) → may ≡ m e → (may && (e == i)) || (nat_lt i e && m i) ≡ nat_lt i (e + 1) && m i
next_more m e i may is = go (cases_order e i)
  where
    none : (b : Bool) → b && false ≡ false
    none true = refl
    none false = refl

    one : (b : Bool) → (b && true) || false ≡ b
    one true = refl
    one false = refl

    go : (e ≡ i) ⊎ ((e < i) ⊎ (i < e)) → (may && (e == i)) || (nat_lt i e && m i) ≡ nat_lt i (e + 1) && m i
    go (inl same) = rw (← same, eq-eqb e e refl, le-ltb e e (omega arith), lt-ltb e (e + 1) (omega arith)) (one may ∙ is)
    go (inr (inl less)) = rw (ne_eqb e i (λ k. omega (arith, k)), le-ltb i e (omega arith), le-ltb i (e + 1) (omega arith), none may) refl
    go (inr (inr more)) = rw (ne_eqb e i (λ k. omega (arith, k)), lt-ltb i e more, lt-ltb i (e + 1) (omega arith), none may) refl
