-- The most that a code can cost, where no table has more rows than 64 bits count.
use Rattle.std.proofs.Common.{◌≡◌, refl, ℕ, suc, ◌+◌, ◌*◌, ◌^◌, ◌<◌, ◌≤◌, ◌==◌, max, min, nat_lt, Bool, true, false, List, [], ◌∷◌, ◌++◌, length, take, drop, Option, Some, None, arith}
use Rattle.std.specs.Int.Digits.{digits_of}
use Rattle.std.proofs.lemmas.Int.Digits.{length-digits_of-le}
use Rattle.std.proofs.lemmas.List.{length-drop, length-take}
use Rattle.std.proofs.lemmas.Nat.{mul-le}
use Rattle.expr.specs.declared.bound.ColumnId.{ColumnId}
use Rattle.expr.specs.declared.code.Access.{Access}
use Rattle.expr.specs.declared.code.Access.TheVariants.{Full, Index, Range}
use Rattle.expr.specs.declared.code.Method.{Method}
use Rattle.expr.specs.declared.code.Method.TheVariants.{Nested, Hash, Merge}
use Rattle.expr.specs.declared.code.CodeStep.{CodeStep}
use Rattle.expr.specs.Bound.{BoundExpr}
use Rattle.expr.specs.Codes.{Code, Empty, Steps}
use Rattle.predicates.specs.Numbered.{numbered}
use Rattle.stats.specs.Card.{Entries, most_rows, reduced, rows_at, selections}
use Rattle.stats.specs.Factors.{factor, million}
use Rattle.left_tails.specs.Tails.{is_completed, left_join_cost, left_times, size_with_left, size_with_lefts, tail_cost}
use Rattle.plan_laws.proofs.MostRows.{card_within, factor_within, reduced_all, reduced_within}
use Rattle.trailcheck.specs.Entries.{is_among}
use Rattle.trailcheck.specs.Shapes.{entry_index}
use Rattle.joins.specs.Orders.{Order, is_ordered_by, merge_sorting, order_after, order_of, sides, sorting_unless}
use Rattle.joins.specs.Steps.{sort_steps}
use Rattle.code_costs.specs.Cost.{Estimates, access_cost, cost, cost_after, entry_size, factor_held, first_left, inner_size, join_cost, last_sorting, size, step_cost, steps_cost, whole_size}

-- ---- sorts of at most so many rows

sort_within : (n : ℕ) → n ≤ most_rows → sort_steps n ≤ 2 ^ 46
sort_within n h =
    let digits : length (digits_of 2 n) ≤ 41 = length-digits_of-le 2 41 n (omega arith) (omega (arith, h)) in
    let all = mul-le n (length (digits_of 2 n)) most_rows 41 h digits in
    omega (arith, all)

sorting_within : (b : Bool) (n : ℕ) → n ≤ most_rows → sorting_unless b n ≤ 2 ^ 46
sorting_within true n h = omega arith
sorting_within false n h = sort_within n h

merging_within : (left right : Order) (x y : ℕ) (o : Option (ColumnId × ColumnId)) → x ≤ most_rows → y ≤ most_rows → merge_sorting left right x y o ≤ 2 ^ 47
merging_within left right x y None h k = omega arith
merging_within left right x y (Some (placed, own)) h k =
    let a = sorting_within (is_ordered_by right own) y k in
    let b = sorting_within (is_ordered_by left placed) x h in
    omega (arith, a, b)

-- ---- the costs of steps

module _ (at : Estimates) where
  size_within : (entries : Entries) → size at entries ≤ most_rows
  size_within entries = card_within at.statistics entries at.conditions

  joining_within : (x y : ℕ) (order : Order) (s : CodeStep) (m : Method) → x ≤ most_rows → y ≤ most_rows → join_cost at x y order s m ≤ 2 ^ 80
  joining_within x y order s Nested h k = let p = mul-le x y most_rows most_rows h k in omega (arith, p)
  joining_within x y order s (Hash conjunct) h k = omega (arith, h, k)
  joining_within x y order s (Merge conjunct) h k =
      let m = merging_within order (order_of (entry_index s) s.access) x y (sides at.conditions (entry_index s) conjunct) h k in
      omega (arith, h, k, m)

  held_within : (o : Option BoundExpr) → factor_held at.statistics o ≤ million
  held_within None = omega arith
  held_within (Some e) = factor_within at.statistics e

  module _ (few : (entry : ℕ) → rows_at at.statistics entry < 2 ^ 64) where
    reading_within : (entry : ℕ) (a : Access) → access_cost at entry a ≤ 2 ^ 66
    reading_within entry Full = let r = few entry in omega (arith, r)
    reading_within entry (Index column) = let r = few entry in omega (arith, r)
    reading_within entry (Range column bound) =
        let r = few entry in
        let p = reduced_within (rows_at at.statistics entry) (factor_held at.statistics (numbered at.conditions bound)) (2 ^ 64) (held_within (numbered at.conditions bound)) (omega (arith, r)) (omega arith) in
        omega (arith, p)

    step_within : (placed : Entries) (order : Order) (s : CodeStep) → step_cost at placed order s ≤ 2 ^ 81
    step_within placed order s =
        let j = joining_within (size at placed) (entry_size at (entry_index s)) order s s.method (size_within placed) (size_within (λ i. entry_index s == i)) in
        let r = reading_within (entry_index s) s.access in
        omega (arith, j, r)

    -- ---- left joined entries

    times_left : (v rows f : ℕ) → v ≤ most_rows → f ≤ million → left_times v rows f ≤ most_rows
    times_left v rows f h l = go (v * rows)
      where
        go : (n : ℕ) → max v (reduced (min n most_rows) f) ≤ most_rows
        go n = let r = reduced_within (min n most_rows) f most_rows l (omega arith) (omega arith) in omega (arith, h, r)

    left_within : (v i : ℕ) (on : BoundExpr) → v ≤ most_rows → size_with_left at.statistics (selections at.statistics at.conditions) v i on ≤ most_rows
    left_within v i on h =
        reduced_all at.statistics (left_times v (rows_at at.statistics i) (factor at.statistics on)) (is_completed i) at.conditions
        (times_left v (rows_at at.statistics i) (factor at.statistics on) h (factor_within at.statistics on))

    lefts_within : (v i : ℕ) (ons : List BoundExpr) → v ≤ most_rows → size_with_lefts at.statistics (selections at.statistics at.conditions) v i ons ≤ most_rows
    lefts_within v i [] h = h
    lefts_within v i (on ∷ ons) h = lefts_within (size_with_left at.statistics (selections at.statistics at.conditions) v i on) (suc i) ons (left_within v i on h)

    left_join_within : (v i : ℕ) (m : Method) → v ≤ most_rows → left_join_cost at.statistics v i m ≤ 2 ^ 105
    left_join_within v i Nested h =
        let r = few i in
        let p = mul-le v (max 1 (rows_at at.statistics i)) most_rows (2 ^ 64) h (omega (arith, r)) in
        omega (arith, p)
    left_join_within v i (Hash conjunct) h = let r = few i in omega (arith, r, h)
    left_join_within v i (Merge conjunct) h = omega arith

    tail_within : (v i : ℕ) (ons : List BoundExpr) (ss : List CodeStep) → v ≤ most_rows → tail_cost at.statistics (selections at.statistics at.conditions) v i ons ss ≤ length ss * 2 ^ 106
    tail_within v i [] ss h = omega arith
    tail_within v i (on ∷ ons) [] h = omega arith
    tail_within v i (on ∷ ons) (s ∷ ss) h =
        let one = left_join_within v i s.method h in
        let r = few i in
        let rest = tail_within (size_with_left at.statistics (selections at.statistics at.conditions) v i on) (suc i) ons ss (left_within v i on h) in
        omega (arith, one, r, rest)

    -- ---- all of it

    last_within : (order : Order) (wanted : Option ColumnId) → last_sorting at order wanted ≤ 2 ^ 46
    last_within order None = omega arith
    last_within order (Some id) = sorting_within (is_ordered_by order id) (whole_size at) (lefts_within (inner_size at) (first_left at) at.lefts (size_within (λ i. nat_lt i (first_left at))))

    after_within : (placed : List ℕ) (order : Order) (ss : List CodeStep) → cost_after at placed order ss ≤ length ss * 2 ^ 81 + 2 ^ 46
    after_within placed order [] = let l = last_within order at.wanted in omega (arith, l)
    after_within placed order (s ∷ ss) =
        let one = step_within (is_among placed) order s in
        let rest = after_within (placed ++ entry_index s ∷ []) (order_after at.conditions (entry_index s) order s.method) ss in
        omega (arith, one, rest)

    steps_within : (ss : List CodeStep) → steps_cost at ss ≤ length ss * 2 ^ 81 + 2 ^ 46
    steps_within [] = let l = last_within None at.wanted in omega (arith, l)
    steps_within (s ∷ ss) =
        let one = reading_within (entry_index s) s.access in
        let rest = after_within (entry_index s ∷ []) (order_of (entry_index s) s.access) ss in
        omega (arith, one, rest)

    -- the cost of a code of few steps is of 128 bits
    pub cost_small : (code : Code) → ((ss : List CodeStep) → code ≡ Steps ss → length ss ≤ 12) → cost at code < 2 ^ 128
    cost_small Empty few = omega arith
    cost_small (Steps ss) few =
        let n = few ss refl in
        let c = steps_within (take (first_left at) ss) in
        let t = tail_within (inner_size at) (first_left at) at.lefts (drop (first_left at) ss) (size_within (λ i. nat_lt i (first_left at))) in
        let a = length-take (first_left at) ss in
        let b = length-drop (first_left at) ss in
        omega (arith, n, c, t, a, b)
