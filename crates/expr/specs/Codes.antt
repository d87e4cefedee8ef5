-- Codes of plans: which entry comes next, how its rows are read, and how they are joined to those before.
use Rattle.std.specs.Prelude.{ℕ, List, [], ◌∷◌, ◌++◌, flat_map}
use Rattle.std.specs.declared.cmp.Ordering.{Ordering}
use Rattle.std.specs.Ordering.{nat_cmp}
use Rattle.std.specs.Cmp.Lexicographic.{slice_cmp}
use Rattle.expr.specs.declared.code.Access.{Access}
use Rattle.expr.specs.declared.code.Access.TheVariants.{Full, Index, Range}
use Rattle.expr.specs.declared.code.Method.{Method}
use Rattle.expr.specs.declared.code.Method.TheVariants.{Nested, Hash, Merge}
use Rattle.expr.specs.declared.code.CodeStep.{CodeStep}

-- no step, or a step for each entry
pub data Code : Type 0 where
  Empty : Code
  Steps : List CodeStep → Code

-- ---- a step as numbers

-- the kind of the access, its column, and the conjunct that bounds it; 0 where there is none
abbrev pub access_numbers : Access → List ℕ
access_numbers Full = 0 ∷ 0 ∷ 0 ∷ []
access_numbers (Index column) = 1 ∷ column ∷ 0 ∷ []
access_numbers (Range column bound) = 2 ∷ column ∷ bound ∷ []

-- the kind of the join, and its conjunct; 0 where there is none
abbrev pub method_numbers : Method → List ℕ
method_numbers Nested = 0 ∷ 0 ∷ []
method_numbers (Hash conjunct) = 1 ∷ conjunct ∷ []
method_numbers (Merge conjunct) = 2 ∷ conjunct ∷ []

abbrev pub step_numbers : CodeStep → List ℕ
step_numbers step = step.entry ∷ (access_numbers step.access ++ method_numbers step.method)

-- ---- the order of codes

abbrev pub code_numbers : Code → List ℕ
code_numbers Empty = []
code_numbers (Steps steps) = flat_map step_numbers steps

abbrev pub code_cmp : Code → Code → Ordering
code_cmp code other = slice_cmp nat_cmp (code_numbers code) (code_numbers other)
