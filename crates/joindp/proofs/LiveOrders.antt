-- From a set on, an order that nobody will ask for is as good as none.
use Rattle.std.proofs.Common.{◌≡◌, ◌∙◌, refl, sym, ap, ap₂, subst, ℕ, zero, suc, ◌+◌, ◌-◌, ◌^◌, ◌<◌, ◌≤◌, ◌⊎◌, inl, inr, Bool, true, false, not, ◌&&◌, ◌||◌, ◌==◌, nat_lt, List, [], ◌∷◌, length, option_map, Option, Some, None, slice_get, arith, true≢false}
use Rattle.std.specs.Prelude.{if◌then◌else◌}
use Rattle.std.specs.List.{list_any}
use Rattle.std.proofs.lemmas.Bool.{and_from, and_parts, both_ways, eqb-true, not-true, not_from_false, or_cases, or_left, or_parts, or_right}
use Rattle.expr.specs.declared.bound.ColumnId.{ColumnId}
use Rattle.expr.specs.declared.code.Method.{Method}
use Rattle.expr.specs.declared.code.Method.TheVariants.{Nested, Hash, Merge}
use Rattle.expr.specs.declared.code.CodeStep.{CodeStep}
use Rattle.expr.specs.Bound.{BoundExpr}
use Rattle.predicates.specs.Equalities.{column_sides}
use Rattle.stats.specs.Card.{Entries}
use Rattle.trailcheck.specs.Admissible.{is_some_and}
use Rattle.trailcheck.specs.Shapes.{entry_index}
use Rattle.joins.specs.Orders.{Order, facing, is_ordered_by, merge_sorting, order_after, order_of, sides, sides_held, sorting_unless}
use Rattle.code_costs.specs.Best.{Problem, estimates}
use Rattle.code_costs.specs.Cost.{access_cost, entry_size, join_cost, last_sorting, size, whole_size}
use Rattle.joindp.specs.Following.{equates_with, may_join_by, span}
use Rattle.joindp.specs.Search.{After, IsKept, IsSmall, asks_for, entry_count, is_live, is_order_of, is_wanted, live_order, search, set_of}
use Rattle.joindp.specs.Walks.{IsBestFrom, IsNoWorse, IsPath, Plan, path_cost}
use Rattle.joindp.proofs.NewSteps.{is_new}
use Rattle.joindp.proofs.OneBit.{one_more_bit}

-- ---- lists

any_fewer : {X : Type 0} (f g : X → Bool) (xs : List X) → ((x : X) → g x ≡ true → f x ≡ true) → list_any f xs ≡ false → list_any g xs ≡ false
any_fewer f g [] fewer h = refl
any_fewer f g (x ∷ xs) fewer h = let parts = or_parts (f x) (list_any f xs) h in go (g x) refl (any_fewer f g xs fewer parts.1)
  where
    go : (t : Bool) → g x ≡ t → list_any g xs ≡ false → t || list_any g xs ≡ false
    go true e rest = absurd (both_ways (f x) (or_parts (f x) (list_any f xs) h).0 (fewer x e))
    go false e rest = rest

none_at : {X : Type 0} (f : X → Bool) (xs : List X) (k : ℕ) (x : X) → list_any f xs ≡ false → slice_get xs k ≡ Some x → f x ≡ false
none_at f [] k x h e = absurd (cc)
none_at f (y ∷ ys) zero x h e = let same : y ≡ x = cc in ap f (sym same) ∙ (or_parts (f y) (list_any f ys) h).0
none_at f (y ∷ ys) (suc k) x h e = none_at f ys k x (or_parts (f y) (list_any f ys) h).1 e

-- ---- orders that nobody will ask for

-- what asks for an order after more entries asks for it after fewer
asks_earlier : (placed more : Entries) (order : Order) (o : Option (ColumnId × ColumnId)) → ((i : ℕ) → placed i ≡ true → more i ≡ true) → asks_for more order o ≡ true → asks_for placed order o ≡ true
asks_earlier placed more order None within h = h
asks_earlier placed more order (Some (a, b)) within h = go (or_cases (is_ordered_by order a && not (more b.entry)) (is_ordered_by order b && not (more a.entry)) h)
  where
    outside : (i : ℕ) → not (more i) ≡ true → not (placed i) ≡ true
    outside i e = by (placed i) refl
      where
        by : (t : Bool) → placed i ≡ t → not t ≡ true
        by true k = absurd (both_ways (more i) (not-true (more i) e) (within i k))
        by false k = refl

    go : ((is_ordered_by order a && not (more b.entry)) ≡ true) ⊎ ((is_ordered_by order b && not (more a.entry)) ≡ true) → asks_for placed order (Some (a, b)) ≡ true
    go (inl k) = let parts = and_parts (is_ordered_by order a) (not (more b.entry)) k in or_left _ _ (and_from _ _ parts.0 (outside b.entry parts.1))
    go (inr k) = let parts = and_parts (is_ordered_by order b) (not (more a.entry)) k in or_right _ _ (and_from _ _ parts.0 (outside a.entry parts.1))

module _ (p : Problem) (id : ColumnId) where
  dead_later : (placed more : Entries) → ((i : ℕ) → placed i ≡ true → more i ≡ true) → is_live p placed (Some id) ≡ false → is_live p more (Some id) ≡ false
  dead_later placed more within dead =
      let parts = or_parts (is_wanted p.wanted (Some id)) (list_any (λ e. asks_for placed (Some id) (column_sides e)) p.setting.conditions) dead in
      let fewer = any_fewer (λ e. asks_for placed (Some id) (column_sides e)) (λ e. asks_for more (Some id) (column_sides e)) p.setting.conditions (λ e. asks_earlier placed more (Some id) (column_sides e) within) parts.1 in
      ap (λ b. b || list_any (λ e. asks_for more (Some id) (column_sides e)) p.setting.conditions) parts.0 ∙ fewer

  module _ (placed : Entries) (dead : is_live p placed (Some id) ≡ false) where
    -- it is not wanted in the end
    last_alike : last_sorting (estimates p) (Some id) p.wanted ≡ last_sorting (estimates p) None p.wanted
    last_alike = go p.wanted (or_parts (is_wanted p.wanted (Some id)) (list_any (λ e. asks_for placed (Some id) (column_sides e)) p.setting.conditions) dead).0
      where
        go : (w : Option ColumnId) → is_wanted w (Some id) ≡ false → last_sorting (estimates p) (Some id) w ≡ last_sorting (estimates p) None w
        go None e = refl
        go (Some w) e = ap (λ b. sorting_unless b (whole_size (estimates p))) e

    module _ (i : ℕ) (new : placed i ≡ false) where
      -- of the two columns of an equality it is not the one that a merge sorts by
      unfaced : (a b : ColumnId) → span placed i (Some (a, b)) ≡ true → asks_for placed (Some id) (Some (a, b)) ≡ false → is_ordered_by (Some id) (facing i (a, b)).0 ≡ false
      unfaced a b spans unasked = go (b.entry == i) refl (or_cases (placed a.entry && (b.entry == i)) ((a.entry == i) && placed b.entry) spans)
        where
          parts : (is_ordered_by (Some id) a && not (placed b.entry) ≡ false) × (is_ordered_by (Some id) b && not (placed a.entry) ≡ false)
          parts = or_parts (is_ordered_by (Some id) a && not (placed b.entry)) (is_ordered_by (Some id) b && not (placed a.entry)) unasked

          outside : (e : ℕ) → (e == i) ≡ true → not (placed e) ≡ true
          outside e same = not_from_false (placed e) (ap placed (eqb-true e i same) ∙ new)

          not_so : (s t : Bool) → s && t ≡ false → t ≡ true → s ≡ false
          not_so true true h k = absurd (true≢false h)
          not_so true false h k = absurd (true≢false (sym k))
          not_so false t h k = refl

          swapped : Bool → ColumnId × ColumnId
          swapped c = if c then (a, b) else (b, a)

          go : (c : Bool) → (b.entry == i) ≡ c → ((placed a.entry && (b.entry == i)) ≡ true) ⊎ (((a.entry == i) && placed b.entry) ≡ true) → is_ordered_by (Some id) (swapped c).0 ≡ false
          go true e k = not_so (is_ordered_by (Some id) a) (not (placed b.entry)) parts.0 (outside b.entry e)
          go false e (inl k) = absurd (both_ways (b.entry == i) e (and_parts (placed a.entry) (b.entry == i) k).1)
          go false e (inr k) = not_so (is_ordered_by (Some id) b) (not (placed a.entry)) parts.1 (outside a.entry (and_parts (a.entry == i) (placed b.entry) k).0)

      merge_alike : (right : Order) (x y k : ℕ) → may_join_by p.setting placed i (Merge k) ≡ true → merge_sorting (Some id) right x y (sides p.setting.conditions i k) ≡ merge_sorting None right x y (sides p.setting.conditions i k)
      merge_alike right x y zero joins = absurd (true≢false (sym joins))
      merge_alike right x y (suc k) joins = held (slice_get p.setting.conditions k) refl joins
        where
          faced : (o : Option (ColumnId × ColumnId)) → span placed i o ≡ true → asks_for placed (Some id) o ≡ false → merge_sorting (Some id) right x y (option_map (facing i) o) ≡ merge_sorting None right x y (option_map (facing i) o)
          faced None spans unasked = refl
          faced (Some ids) spans unasked = ap (λ b. sorting_unless (is_ordered_by right (facing i ids).1) y + sorting_unless b x) (unfaced ids.0 ids.1 spans unasked)

          held : (o : Option BoundExpr) → slice_get p.setting.conditions k ≡ o → is_some_and (equates_with placed i) o ≡ true → merge_sorting (Some id) right x y (sides_held i o) ≡ merge_sorting None right x y (sides_held i o)
          held None e spans = refl
          held (Some c) e spans =
              faced (column_sides c) spans
              (none_at (λ e. asks_for placed (Some id) (column_sides e)) p.setting.conditions k c (or_parts (is_wanted p.wanted (Some id)) (list_any (λ e. asks_for placed (Some id) (column_sides e)) p.setting.conditions) dead).1 e)

-- ---- paths

module _ (p : Problem) (few : entry_count p ≤ 12) where
  -- the order plays no part in which steps may come
  path_alike : (set : ℕ) (one other : Order) (t : List CodeStep) → IsPath (search p) (After set one) t → IsPath (search p) (After set other) t
  path_alike set one other [] h = h
  path_alike set one other (c ∷ t) h =
      let i = entry_index c in (h.0, path_alike (set + 2 ^ i) (order_after p.setting.conditions i one c.method) (order_after p.setting.conditions i other c.method) t h.1)

  module _ (id : ColumnId) where
    step_alike : (placed : Entries) (x y : ℕ) (c : CodeStep) (m : Method) → is_live p placed (Some id) ≡ false → placed (entry_index c) ≡ false → may_join_by p.setting placed (entry_index c) m ≡ true → join_cost (estimates p) x y (Some id) c m ≡ join_cost (estimates p) x y None c m
    step_alike placed x y c Nested dead new joins = refl
    step_alike placed x y c (Hash k) dead new joins = refl
    step_alike placed x y c (Merge k) dead new joins = ap (λ n. x + y + n) (merge_alike p id placed dead (entry_index c) new (order_of (entry_index c) c.access) x y k joins)

    rest_alike : (set i : ℕ) (m : Method) (t : List CodeStep) → (IsPath (search p) (After set (Some id)) t → path_cost (search p) (After set (Some id)) t ≡ path_cost (search p) (After set None) t)
        → IsPath (search p) (After set (order_after p.setting.conditions i (Some id) m)) t
        → path_cost (search p) (After set (order_after p.setting.conditions i (Some id) m)) t ≡ path_cost (search p) (After set (order_after p.setting.conditions i None m)) t
    rest_alike set i Nested t alike h = alike h
    rest_alike set i (Hash k) t alike h = alike h
    rest_alike set i (Merge k) t alike h = refl

    -- nor does one that nobody will ask for in what they cost
    cost_alike : (set : ℕ) (t : List CodeStep) → is_live p (set_of set) (Some id) ≡ false → IsPath (search p) (After set (Some id)) t → path_cost (search p) (After set (Some id)) t ≡ path_cost (search p) (After set None) t
    cost_alike set [] dead h = last_alike p id (set_of set) dead
    cost_alike set (c ∷ t) dead h =
        let new = is_new p.setting (set_of set) c h.0 in
        let i : ℕ = entry_index c in
        let small : i < 64 = let below = new.below in omega (arith, below) in
        let later = dead_later p id (set_of set) (set_of (set + 2 ^ i)) (λ j there. one_more_bit set i j small new.new ∙ or_right (i == j) (set_of set j) there) dead in
        ap₂ (λ a b. a + b)
        (ap (λ n. n + access_cost (estimates p) i c.access) (step_alike (set_of set) (size (estimates p) (set_of set)) (entry_size (estimates p) i) c c.method dead new.new new.method))
        (rest_alike (set + 2 ^ i) i c.method t (cost_alike (set + 2 ^ i) t later) h.1)

    -- the best plan for no order is the best one for it
    pub best_alike : (set : ℕ) (plan : Option Plan) → is_live p (set_of set) (Some id) ≡ false → IsBestFrom (search p) (After set None) plan → IsBestFrom (search p) (After set (Some id)) plan
    best_alike set None dead best = λ t path. best t (path_alike set (Some id) None t path)
    best_alike set (Some q) dead best =
        let path = path_alike set None (Some id) q.1 best.0.1 in (
          (best.0.0 ∙ sym (cost_alike set q.1 dead path), path),
          λ t path. subst (λ n. IsNoWorse q (n, t)) (sym (cost_alike set t dead path)) (best.1 t (path_alike set (Some id) None t path)),
        )

  -- where there is no path for an order there is none for no order
  none_alike : (set : ℕ) (order : Order) (plan : Option Plan) → IsBestFrom (search p) (After set order) None → IsBestFrom (search p) (After set None) plan → IsBestFrom (search p) (After set order) plan
  none_alike set order None none best = none
  none_alike set order (Some q) none best = absurd (none q.1 (path_alike set None order q.1 best.0.1))

  -- the best plan for what is left of an order is the best one for it
  pub best_by_live : (set : ℕ) (order : Order) (plan : Option Plan) → IsBestFrom (search p) (After set (live_order p (set_of set) order)) plan → IsBestFrom (search p) (After set order) plan
  best_by_live set None plan best = best
  best_by_live set (Some id) plan best = go (is_live p (set_of set) (Some id)) refl best
    where
      go : (b : Bool) → is_live p (set_of set) (Some id) ≡ b → IsBestFrom (search p) (After set (if b then Some id else None)) plan → IsBestFrom (search p) (After set (Some id)) plan
      go true e h = h
      go false e h = best_alike id set plan e h

  -- combinations can come in it too
  pub live_fits : (set : ℕ) (order : Order) → is_order_of set order ≡ true → is_order_of set (live_order p (set_of set) order) ≡ true
  live_fits set None fits = refl
  live_fits set (Some id) fits = go (is_live p (set_of set) (Some id))
    where
      go : (b : Bool) → is_order_of set (if b then Some id else None) ≡ true
      go true = fits
      go false = refl

  abbrev pub IsBest : (set : ℕ) → Order → Option Plan → Type 0
  IsBest set order plan = IsBestFrom (search p) (After set order) plan × IsSmall (2 ^ entry_count p - set) plan

  -- where none is kept for the order, the plan for no order is the best one for it
  pub best_of_kept : (set : ℕ) (order : Order) (at unordered : Option Plan) → at ≡ None → IsKept p set order at → IsKept p set None unordered → IsBest set order unordered
  best_of_kept set None at unordered none kept instead = instead.0 refl
  best_of_kept set (Some id) at unordered none kept instead = go (is_live p (set_of set) (Some id)) refl
    where
      best : IsBest set None unordered
      best = instead.0 refl

      go : (b : Bool) → is_live p (set_of set) (Some id) ≡ b → IsBest set (Some id) unordered
      go true e = (none_alike set (Some id) unordered (subst (IsBestFrom (search p) (After set (Some id))) none (kept.0 e).0) best.0, best.1)
      go false e = (best_alike id set unordered e best.0, best.1)

  -- where one is kept, that is
  pub best_as_kept : (set : ℕ) (order : Order) (at : Option Plan) → (at ≡ None → ⊥) → IsKept p set order at → IsBest set order at
  best_as_kept set order at some kept = go (is_live p (set_of set) order) refl
    where
      go : (b : Bool) → is_live p (set_of set) order ≡ b → IsBest set order at
      go true e = kept.0 e
      go false e = absurd (some (kept.1 e))
