-- The plans of a search: steps through states, what they cost in all, and which of them are the best.
use Rattle.std.specs.Prelude.{◌≡◌, ℕ, ◌+◌, Bool, true, List, [], ◌∷◌, Option, Some, None, ◌⊎◌}
use Rattle.expr.specs.declared.code.CodeStep.{CodeStep}
pub use Rattle.left_tails.specs.Plans.{IsNoLater, IsNoWorse, Plan, numbers}

-- a search: in which states it is done, which steps may come next, what each costs and where it leads, and what the end costs
pub record Walk : Type 1 where
  pub State : Type 0
  pub is_done : State → Bool
  pub allows : State → CodeStep → Bool
  pub step_cost : State → CodeStep → ℕ
  pub next : State → CodeStep → State
  pub last_cost : State → ℕ

-- a step before the rest of a plan
abbrev pub with_first : ℕ → CodeStep → Option Plan → Option Plan
with_first n c None = None
with_first n c (Some q) = Some (n + q.0, c ∷ q.1)

-- the element is one of the list
abbrev pub IsOneOf : {X : Type 0} → List X → X → Type 0
IsOneOf [] x = ⊥
IsOneOf (y ∷ ys) x = (y ≡ x) ⊎ IsOneOf ys x

module _ (w : Walk) where
  -- the steps lead from a state to the end
  abbrev pub IsPath : w.State → List CodeStep → Type 0
  IsPath s [] = w.is_done s ≡ true
  IsPath s (c ∷ cs) = (w.allows s c ≡ true) × IsPath (w.next s c) cs

  abbrev pub path_cost : w.State → List CodeStep → ℕ
  path_cost s [] = w.last_cost s
  path_cost s (c ∷ cs) = w.step_cost s c + path_cost (w.next s c) cs

  -- the plan is a path with its cost
  abbrev pub IsPlan : w.State → Plan → Type 0
  IsPlan s q = (q.0 ≡ path_cost s q.1) × IsPath s q.1

  -- and no path from the state is better; none where there is no path
  abbrev pub IsBestFrom : w.State → Option Plan → Type 0
  IsBestFrom s None = (t : List CodeStep) → IsPath s t → ⊥
  IsBestFrom s (Some q) = IsPlan s q × ((t : List CodeStep) → IsPath s t → IsNoWorse q (path_cost s t, t))

  -- the same of the paths that begin with one of these steps
  abbrev pub IsBestOf : List CodeStep → w.State → Option Plan → Type 0
  IsBestOf firsts s None = (c : CodeStep) (t : List CodeStep) → IsOneOf firsts c → IsPath s (c ∷ t) → ⊥
  IsBestOf firsts s (Some q) = IsPlan s q × ((c : CodeStep) (t : List CodeStep) → IsOneOf firsts c → IsPath s (c ∷ t) → IsNoWorse q (path_cost s (c ∷ t), c ∷ t))

-- the one that is no worse, of two that may be there
abbrev pub IsPick : Option Plan → Option Plan → Option Plan → Type 0
IsPick None b r = r ≡ b
IsPick (Some x) None r = r ≡ Some x
IsPick (Some x) (Some y) r = ((r ≡ Some x) × IsNoWorse x y) ⊎ ((r ≡ Some y) × IsNoWorse y x)
