-- Steps with their cost, and which of them are no worse than others.
use Rattle.std.specs.Prelude.{◌≡◌, ℕ, ◌<◌, List, [], ◌∷◌, flat_map, ◌⊎◌}
use Rattle.expr.specs.declared.code.CodeStep.{CodeStep}
use Rattle.expr.specs.Codes.{step_numbers}

-- the numbers come first from left to right, or are the same
abbrev pub IsNoLater : List ℕ → List ℕ → Type 0
IsNoLater [] ys = Unit {0}
IsNoLater (x ∷ xs) [] = ⊥
IsNoLater (x ∷ xs) (y ∷ ys) = (x < y) ⊎ ((x ≡ y) × IsNoLater xs ys)

-- a cost and steps
abbrev pub Plan : Type 0
Plan = ℕ × List CodeStep

abbrev pub numbers : List CodeStep → List ℕ
numbers steps = flat_map step_numbers steps

-- it costs less, or as much and its numbers are no later
abbrev pub IsNoWorse : Plan → Plan → Type 0
IsNoWorse p q = (p.0 < q.0) ⊎ ((p.0 ≡ q.0) × IsNoLater (numbers p.1) (numbers q.1))
