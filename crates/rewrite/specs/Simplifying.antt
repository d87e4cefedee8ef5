-- The steps that simplify conditions, part them, add what follows from them, and drop those that repeat one.
use Rattle.std.specs.Prelude.{ℕ, zero, suc, ◌-◌, List, [], ◌∷◌, ◌++◌, length, Option, Some, None, if◌then◌else◌}
use Rattle.expr.specs.Bound.{BoundExpr}
use Rattle.algebra.specs.PlanningList.{parts_of, consequence, with_condition, with_any, with_each}
use Rattle.algebra.specs.Runs.{stands_in}
use Rattle.algebra.specs.Steps.{Step}
use Rattle.rewrite.specs.Trails.{at_root, at_root_with, below_filters}

-- ---- each condition in its simplified form: NOT carried inward, then the literals folded

abbrev pub simplifying_each : List BoundExpr → List Step
simplifying_each [] = []
simplifying_each (e ∷ es) = below_filters (length es) (at_root 13 ∷ at_root 14 ∷ []) ++ simplifying_each es

-- ---- an AND as its members: each step takes the first of those that are left

-- the same step so many times
abbrev pub repeated : ℕ → Step → List Step
repeated zero s = []
repeated (suc n) s = s ∷ repeated n s

-- the steps that part one condition
abbrev pub parting : BoundExpr → List Step
parting e = repeated (length (parts_of e) - 1) (at_root 1)

-- and each of several
abbrev pub parting_each : List BoundExpr → List Step
parting_each [] = []
parting_each (e ∷ es) = below_filters (length es) (parting e) ++ parting_each es

-- ---- the consequences of two conditions, which are added on top

-- the number of a filter in the run from the top, of that index from below
abbrev pub from_top : List BoundExpr → ℕ → ℕ
from_top known i = length known - 1 - i

-- the step that adds a condition, which follows from those of two indices, unless it is known
abbrev pub adding : List BoundExpr → Option BoundExpr → (i j : ℕ) → List Step
adding known None i j = []
adding known (Some e) i j = if stands_in e known then [] else at_root_with 12 (from_top known i ∷ from_top known j ∷ []) ∷ []

-- the consequences of p and each q; p has the index i, the first q the index j
abbrev pub adding_each : List BoundExpr → (i : ℕ) → (p : BoundExpr) → (j : ℕ) → (qs : List BoundExpr) → List Step
adding_each known i p j [] = []
adding_each known i p j (q ∷ qs) = adding known (consequence p q) i j ++ adding_each (with_any known (consequence p q)) i p (suc j) qs

-- the consequences of each p and each q; the first p has the index i
abbrev pub adding_all : List BoundExpr → (i : ℕ) → (ps qs : List BoundExpr) → List Step
adding_all known i [] qs = []
adding_all known i (p ∷ ps) qs = adding_each known i p 0 qs ++ adding_all (with_each known p qs) (suc i) ps qs

-- ---- conditions that repeat one below them

abbrev pub dropping : (known : List BoundExpr) → List BoundExpr → List Step
dropping known [] = []
dropping known (e ∷ es) = (if stands_in e known then below_filters (length es) (at_root 10 ∷ []) else []) ++ dropping (with_condition known e) es
