-- Trails as lists of steps: where they lead, and the same steps further down a term.
use Rattle.std.specs.Prelude.{ℕ, zero, suc, Bool, false, List, [], ◌∷◌, map, Ok}
use Rattle.memory.specs.Results.{and_then}
use Rattle.tuples.specs.Guards.{Guard}
use Rattle.row_terms.specs.declared.path.Branch.{Branch}
use Rattle.row_terms.specs.declared.path.Branch.TheVariants.{First}
use Rattle.row_terms.specs.Terms.{Term}
use Rattle.algebra.specs.Rewrites.{applied}
use Rattle.algebra.specs.Rules.{Outcome}
use Rattle.algebra.specs.Steps.{Step}

-- the term after the steps, or the reason why there is none; the limits of a trail play no part
abbrev pub led : List Guard → List Step → Term → Outcome
led frame [] x = Ok x
led frame (s ∷ ss) x = and_then (applied frame s x) (led frame ss)

-- a rule from left to right, with arguments, at the root
abbrev pub at_root_with : ℕ → List ℕ → Step
at_root_with rule arguments = record { rule = rule; is_reverse = false; path = []; arguments = arguments }

-- a rule in a direction, without arguments, at the root
abbrev pub plain : ℕ → (is_reverse : Bool) → Step
plain rule is_reverse = record { rule = rule; is_reverse = is_reverse; path = []; arguments = [] }

abbrev pub at_root : ℕ → Step
at_root rule = plain rule false

-- a step at the same node of the term below a branch
abbrev pub down : Branch → Step → Step
down b s = record { rule = s.rule; is_reverse = s.is_reverse; path = b ∷ s.path; arguments = s.arguments }

abbrev pub all_down : Branch → List Step → List Step
all_down b steps = map (down b) steps

-- steps at the same nodes of the term below so many filters
abbrev pub below_filters : ℕ → List Step → List Step
below_filters zero steps = steps
below_filters (suc n) steps = below_filters n (all_down First steps)

-- steps at the same nodes of the term below a path
abbrev pub below_path : List Branch → List Step → List Step
below_path [] steps = steps
below_path (b ∷ path) steps = all_down b (below_path path steps)
