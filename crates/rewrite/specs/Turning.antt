-- The steps by which left joined entries become inner, each by the first condition that makes it so.
use Rattle.std.specs.Prelude.{ℕ, zero, suc, ◌-◌, true, List, [], ◌∷◌, ◌++◌, length, map, option_map, unwrap_or}
use Rattle.expr.specs.Bound.{BoundExpr}
use Rattle.algebra.specs.PlanningList.{simplified, simplified_parts, parts_of, first_turning}
use Rattle.algebra.specs.Steps.{Step}
use Rattle.rewrite.specs.Simplifying.{parting, parting_each, simplifying_each}
use Rattle.rewrite.specs.Trails.{plain, at_root, below_filters}

-- the same step at each of so many nodes, one below the other: from the first down
abbrev pub downward : ℕ → Step → List Step
downward zero s = []
downward (suc n) s = downward n s ++ below_filters n (s ∷ [])

-- and from the last up
abbrev pub upward : ℕ → Step → List Step
upward zero s = []
upward (suc n) s = below_filters n (s ∷ []) ++ upward n s

-- a condition over so many left joins, the lowest of them that of the entry: it goes down there and makes the entry inner; it comes
-- back to the top, and then so does the ON
abbrev pub making_inner : (lefts : ℕ) → List Step
making_inner lefts = downward lefts (at_root 20) ++ (below_filters lefts (at_root 19 ∷ []) ++ (upward lefts (plain 20 true) ++ below_filters 1 (upward lefts (plain 20 true))))

-- a condition of so many, over some of them: it goes down to the left joins and comes back to its place; the ON goes to the top of all
abbrev pub turning : (count under lefts : ℕ) → List Step
turning count under lefts =
    below_filters (count - 1 - under) (downward under (at_root 3) ++ (below_filters under (making_inner lefts) ++ upward under (at_root 3)))
    ++ upward count (at_root 3)

-- an ON, which is the last condition, in its members, these simplified, and these in their parts
abbrev pub parting_on : BoundExpr → List Step
parting_on on = parting on ++ (simplifying_each (parts_of on) ++ parting_each (map simplified (parts_of on)))

-- the entry becomes inner by the condition of an index, with so many left joins after it, and its ON a condition
abbrev pub turning_at : List BoundExpr → (on : BoundExpr) → (lefts : ℕ) → ℕ → List Step
turning_at es on lefts i = turning (length es) i lefts ++ parting_on on

-- the entries from a number on become inner, one after another, while one of the conditions makes them so
abbrev pub turning_all : (entry : ℕ) → List BoundExpr → (ons : List BoundExpr) → List Step
turning_all entry es [] = []
turning_all entry es (on ∷ ons) =
    unwrap_or (option_map (λ i. turning_at es on (length ons) i ++ turning_all (suc entry) (es ++ simplified_parts (parts_of on)) ons) (first_turning entry es)) []
