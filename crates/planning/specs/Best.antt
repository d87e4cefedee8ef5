-- The best code of a query: of all that a plan may have, the least by cost, and then by its numbers.
use Rattle.std.specs.Prelude.{◌≡◌, ◌≤◌, ℕ, zero, suc, true, List, [], ◌∷◌, ◌++◌, length, map, flat_map, filter, Option, Some}
use Rattle.std.specs.List.{range_with_len}
use Rattle.std.specs.declared.cmp.Ordering.{Ordering}
use Rattle.bags.specs.Least.{least}
use Rattle.expr.specs.declared.code.Access.{Access}
use Rattle.expr.specs.declared.code.Access.TheVariants.{Full, Index, Range}
use Rattle.expr.specs.declared.code.Method.{Method}
use Rattle.expr.specs.declared.code.Method.TheVariants.{Nested, Hash, Merge}
use Rattle.expr.specs.declared.code.CodeStep.{CodeStep}
use Rattle.expr.specs.Bound.{BoundExpr}
use Rattle.expr.specs.Codes.{Code, Empty, Steps}
use Rattle.expr.specs.Conjuncts.{conjuncts_of}
use Rattle.trailcheck.specs.Admissible.{is_admissible}
use Rattle.trailcheck.specs.Settings.{Setting, inner_count}
use Rattle.code_costs.specs.Best.{IsLeast, Problem, estimates, plan_cmp}
use Rattle.code_costs.specs.Cost.{cost}

-- all lists of so many members of a list
abbrev pub lists_of : {X : Type 0} → (count : ℕ) → List X → List (List X)
lists_of zero xs = [] ∷ []
lists_of (suc count) xs = flat_map (λ x. map (λ ys. x ∷ ys) (lists_of count xs)) xs

abbrev pub step_of : (entry : ℕ) → Access → Method → CodeStep
step_of entry access method = record { entry = entry; access = access; method = method }

-- a left joined entry, read in full: nested loops, or a hash table on a conjunct of its ON
abbrev pub left_methods : (on : BoundExpr) → List Method
left_methods on = Nested ∷ map Hash (range_with_len 1 (length (conjuncts_of on)))

-- a step for each left joined entry from that of the index on
abbrev pub tails : (index : ℕ) → (ons : List BoundExpr) → List (List CodeStep)
tails i [] = [] ∷ []
tails i (on ∷ ons) = flat_map (λ s. map (λ ss. s ∷ ss) (tails (suc i) ons)) (map (step_of (suc i) Full) (left_methods on))

module _ (at : Setting) where
  -- the numbers of the conditions, and of the entries that are not left joined
  abbrev pub condition_numbers : List ℕ
  condition_numbers = range_with_len 1 (length at.conditions)

  abbrev pub entry_numbers : List ℕ
  entry_numbers = range_with_len 1 (inner_count at)

  -- all rows; by an index on a column, whole or bounded by a condition
  abbrev pub accesses_by : (column : ℕ) → List Access
  accesses_by column = Index column ∷ map (Range column) condition_numbers

  abbrev pub accesses : List Access
  accesses = Full ∷ flat_map (λ columns. flat_map accesses_by columns) at.indexed

  -- nested loops; a hash table or a merge on a condition
  abbrev pub methods : List Method
  methods = Nested ∷ flat_map (λ number. Hash number ∷ Merge number ∷ []) condition_numbers

  -- each entry by each access and each method
  abbrev pub steps : List CodeStep
  steps = flat_map (λ entry. flat_map (λ access. map (step_of entry access) methods) accesses) entry_numbers

  -- no rows; or a step for each entry, the left joined ones last
  abbrev pub all_codes : List Code
  all_codes = Empty ∷ flat_map (λ ss. map (λ ts. Steps (ss ++ ts)) (tails (inner_count at) at.lefts)) (lists_of (inner_count at) steps)

  -- those that a plan may have
  abbrev pub codes : List Code
  codes = filter (is_admissible at) all_codes

-- codes by cost, and then by their numbers
abbrev pub by_cost : Problem → Code → Code → Ordering
by_cost p code other = plan_cmp (cost (estimates p) code) code (cost (estimates p) other) other

-- the best of them
unfoldable pub best : Problem → Option Code
best p = least (by_cost p) (codes p.setting)

-- ---- laws

-- a code before which none comes is the best
abbrev pub LeastIsBest : Type 0
LeastIsBest = (p : Problem) (code : Code) → is_admissible p.setting code ≡ true → IsLeast p (cost (estimates p) code) code → best p ≡ Some code

-- every problem of no more left joined entries than entries has a best code, which a plan may have
abbrev pub BestIsThere : Type 0
BestIsThere = (p : Problem) → length p.setting.lefts ≤ length p.setting.frame → (code : Code) × (best p ≡ Some code) × (is_admissible p.setting code ≡ true)
