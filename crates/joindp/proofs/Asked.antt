-- What is the same of a step whatever order the combinations before it come in.
use Rattle.std.proofs.Common.{◌≡◌, ◌∙◌, sym, ap, subst, ℕ, ◌+◌, ◌^◌, ◌<◌, ◌≤◌, true, List, length, map, take, option_map, Option, Some, None, slice_index_or, arith, true≢false}
use Rattle.std.proofs.lemmas.List.{get_or-map, length-map}
use Rattle.expr.specs.declared.bound.ColumnId.{ColumnId}
use Rattle.expr.specs.declared.code.Method.TheVariants.{Merge}
use Rattle.expr.specs.declared.code.CodeStep.{CodeStep}
use Rattle.expr.specs.Bound.{BoundExpr}
use Rattle.predicates.specs.Equalities.{column_sides}
use Rattle.stats.specs.Card.{Entries}
use Rattle.trailcheck.specs.Admissible.{is_some_and}
use Rattle.trailcheck.specs.Shapes.{entry_index}
use Rattle.joindp.specs.declared.candidates.Candidate.{Candidate}
use Rattle.code_costs.specs.Best.{Problem, estimates}
use Rattle.joindp.specs.Candidates.{AreCandidates, Asks, IsCandidate, asked, sorting_for}
use Rattle.code_costs.specs.Cost.{Estimates, step_cost_of}
use Rattle.predicates.specs.Numbered.{numbered}
use Rattle.joins.specs.Orders.{Order, facing, order_after, sides, sides_held}
use Rattle.joindp.specs.Following.{equates_with, may_follow, may_join_by, span}
use Rattle.joindp.specs.Search.{After, AreSizes, cost_of_step, entry_count, next, search, set_of}
use Rattle.joindp.specs.Walks.{IsBestFrom, IsBestOf, IsPick, Plan, with_first}
use Rattle.code_costs.proofs.Few.{no_step}
use Rattle.joindp.proofs.Improved.{each_few, improved}
use Rattle.joindp.proofs.Sized.{cost_is}

-- ---- a join that is no merge

-- neither the order after it nor its cost is that of a merge
pub record KeepsOrder (at : Estimates) (s : CodeStep) : Type 0 where
  pub order : (order : Order) → order_after at.conditions (entry_index s) order s.method ≡ order
  pub cost : (x y : ℕ) (order other : Order) → step_cost_of at x y order s ≡ step_cost_of at x y other s

-- ---- a merge

-- what a merge asks for is there
pub has_sides : (p : Problem) (placed : Entries) (entry k : ℕ) → may_join_by p.setting placed entry (Merge k) ≡ true → sides p.setting.conditions entry k ≡ None → ⊥
has_sides p placed entry k h = of (numbered p.setting.conditions k) h
  where
    go : (q : Option (ColumnId × ColumnId)) → span placed entry q ≡ true → option_map (facing entry) q ≡ None → ⊥
    go None spans e = true≢false (sym spans)
    go (Some ids) spans e = cc

    of : (o : Option BoundExpr) → is_some_and (equates_with placed entry) o ≡ true → sides_held entry o ≡ None → ⊥
    of None joins e = true≢false (sym joins)
    of (Some c) joins e = go (column_sides c) joins e

-- ---- both

module _ (p : Problem) (few : entry_count p ≤ 12) (orders : List Order) (sizes : List ℕ) (sized : AreSizes p sizes) (set : ℕ) (within : set < 2 ^ entry_count p) where
  pub is_candidate : (c : Candidate) → may_follow p.setting (set_of set) c.step ≡ true → c.bit ≡ 2 ^ entry_index c.step → Asks (estimates p) orders (slice_index_or sizes set 0) c.step c.merge
      → c.cost ≡ step_cost_of (estimates p) (slice_index_or sizes set 0) (slice_index_or sizes c.bit 0) (asked c.merge) c.step → c.cost ≤ 2 ^ 80 + 2 ^ 66 → IsCandidate p orders set c
  is_candidate c may bit asks cost low = record {
    bit = bit;
    cost = λ order. ap (λ n. n + sorting_for order c.merge) cost ∙ asks.cost (slice_index_or sizes c.bit 0) order ∙ cost_is p few sizes sized set c.bit order c.step within may bit;
    small = λ order. let e = asks.small order in omega (arith, e, low);
    order = asks.order;
  }

-- what a list of them is read with
abbrev pub no_candidate : Candidate
no_candidate = record { step = no_step; bit = 0; cost = 0; merge = None }

abbrev pub own_step : Candidate → CodeStep
own_step c = c.step

-- ---- one of them

module _ (p : Problem) (orders : List Order) (set : ℕ) (cs : List Candidate) (are : AreCandidates p orders set cs) (k : ℕ) (d : Candidate) (within : k < length cs) where
  step_at : slice_index_or (map own_step cs) k no_step ≡ (slice_index_or cs k d).step
  step_at = get_or-map own_step cs k d no_step within

  as_many : length (map own_step cs) ≡ length cs
  as_many = length-map cs own_step

  pub may_come : may_follow p.setting (set_of set) (slice_index_or cs k d).step ≡ true
  may_come = subst (λ s. may_follow p.setting (set_of set) s ≡ true) step_at (each_few p (set_of set) (map own_step cs) k are.0 (omega (arith, as_many, within)))

  pub candidate_at : IsCandidate p orders set (slice_index_or cs k d)
  candidate_at = are.1 k d within

  -- the better of the best so far and one more
  pub improved_by : (order : Order) (best rest new : Option Plan) (cost : ℕ) → IsBestOf (search p) (take k (map own_step cs)) (After set order) best → cost ≡ (slice_index_or cs k d).cost + sorting_for order (slice_index_or cs k d).merge
      → IsBestFrom (search p) (next p (After set order) (slice_index_or cs k d).step) rest → IsPick best (with_first cost (slice_index_or cs k d).step rest) new → IsBestOf (search p) (take (k + 1) (map own_step cs)) (After set order) new
  improved_by order best rest new cost h e after pick =
      let at = step_at in
      let many = as_many in
      improved p (After set order) (map own_step cs) k no_step best rest new cost (omega (arith, many, within)) (subst (λ s. may_follow p.setting (set_of set) s ≡ true) (sym at) may_come) h
      (e ∙ candidate_at.cost order ∙ ap (cost_of_step p (After set order)) (sym at)) (subst (λ s. IsBestFrom (search p) (next p (After set order) s) rest) (sym at) after) (subst (λ s. IsPick best (with_first cost s rest) new) (sym at) pick)
