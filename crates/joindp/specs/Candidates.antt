-- The steps after a set that can be in a least code, with what is the same of each whatever order the combinations come in.
use Rattle.std.specs.Prelude.{◌≡◌, ℕ, ◌+◌, ◌<◌, ◌≤◌, ◌^◌, List, ◌∷◌, length, map, Option, Some, None, slice_get, slice_index_or, if◌then◌else◌}
use Rattle.expr.specs.declared.code.CodeStep.{CodeStep}
use Rattle.trailcheck.specs.Shapes.{entry_index}
use Rattle.joindp.specs.declared.best.Pick.{Pick}
use Rattle.joindp.specs.declared.candidates.Candidate.{Candidate}
use Rattle.joindp.specs.declared.candidates.MergeOrder.{MergeOrder}
use Rattle.code_costs.specs.Best.{Problem}
use Rattle.code_costs.specs.Cost.{Estimates, step_cost_of}
use Rattle.joins.specs.Orders.{Order, is_ordered_by, order_after}
use Rattle.joindp.specs.FewSteps.{few_steps}
use Rattle.joindp.specs.Search.{After, cost_of_step, set_of}
use Rattle.joindp.specs.Walks.{Plan}

-- a pick as a plan
abbrev pub picked : Option Pick → Option Plan
picked None = None
picked (Some p) = Some (p.cost, p.first.now ∷ p.rest.now)

-- the order that a step asks for
abbrev pub asked : Option MergeOrder → Order
asked None = None
asked (Some m) = Some m.column

-- the cost of sorting combinations that come in an order, for a step that may ask for one
abbrev pub sorting_for : Order → Option MergeOrder → ℕ
sorting_for order None = 0
sorting_for order (Some m) = if is_ordered_by order m.column then 0 else m.sorting

-- the index of the order after it
abbrev pub index_after : (index : ℕ) → Option MergeOrder → ℕ
index_after index None = index
index_after index (Some m) = m.index

-- what a step asks for after so many combinations, of those orders
pub record Asks (at : Estimates) (orders : List Order) (x : ℕ) (s : CodeStep) (m : Option MergeOrder) : Type 0 where
  pub order : (i : ℕ) (order : Order) → slice_get orders i ≡ Some order → slice_get orders (index_after i m) ≡ Some (order_after at.conditions (entry_index s) order s.method)
  pub cost : (y : ℕ) (order : Order) → step_cost_of at x y (asked m) s + sorting_for order m ≡ step_cost_of at x y order s
  pub small : (order : Order) → sorting_for order m ≤ 2 ^ 46

module _ (p : Problem) (orders : List Order) (set : ℕ) where
  -- what is said of a step is so, whatever order the combinations come in
  pub record IsCandidate (c : Candidate) : Type 0 where
    pub bit : c.bit ≡ 2 ^ entry_index c.step
    pub cost : (order : Order) → c.cost + sorting_for order c.merge ≡ cost_of_step p (After set order) c.step
    pub small : (order : Order) → c.cost + sorting_for order c.merge ≤ 2 ^ 81
    pub order : (i : ℕ) (order : Order) → slice_get orders i ≡ Some order → slice_get orders (index_after i c.merge) ≡ Some (order_after p.setting.conditions (entry_index c.step) order c.step.method)

  -- those of all steps that can be in a least code
  abbrev pub AreCandidates : List Candidate → Type 0
  AreCandidates cs = (map (λ c. c.step) cs ≡ few_steps p (set_of set)) × ((k : ℕ) (d : Candidate) → k < length cs → IsCandidate (slice_index_or cs k d))
