-- The numbers of a code tell its steps.
use Rattle.std.proofs.Common.{◌≡◌, ℕ, zero, suc, List, [], ◌∷◌, ◌++◌, refl, sym, ap, ◌∙◌}
use Rattle.std.specs.List.{flat_map}
use Rattle.expr.specs.declared.code.Access.{Access}
use Rattle.expr.specs.declared.code.Access.TheVariants.{Full, Index, Range}
use Rattle.expr.specs.declared.code.Method.{Method}
use Rattle.expr.specs.declared.code.Method.TheVariants.{Nested, Hash, Merge}
use Rattle.expr.specs.declared.code.CodeStep.{CodeStep}
use Rattle.expr.specs.Codes.{access_numbers, method_numbers, step_numbers}
use Rattle.planning.specs.Best.{step_of}

-- ---- steps read from their numbers

abbrev access_read : (kind column bound : ℕ) → Access
access_read zero column bound = Full
access_read (suc zero) column bound = Index column
access_read (suc (suc kind)) column bound = Range column bound

abbrev method_read : (kind conjunct : ℕ) → Method
method_read zero conjunct = Nested
method_read (suc zero) conjunct = Hash conjunct
method_read (suc (suc kind)) conjunct = Merge conjunct

abbrev steps_read : List ℕ → List CodeStep
steps_read (entry ∷ kind ∷ column ∷ bound ∷ way ∷ conjunct ∷ rest) = step_of entry (access_read kind column bound) (method_read way conjunct) ∷ steps_read rest
steps_read _ = []

step_is_read : (entry : ℕ) (access : Access) (method : Method) (rest : List ℕ) → steps_read ((entry ∷ (access_numbers access ++ method_numbers method)) ++ rest) ≡ step_of entry access method ∷ steps_read rest
step_is_read entry Full Nested rest = refl
step_is_read entry Full (Hash conjunct) rest = refl
step_is_read entry Full (Merge conjunct) rest = refl
step_is_read entry (Index column) Nested rest = refl
step_is_read entry (Index column) (Hash conjunct) rest = refl
step_is_read entry (Index column) (Merge conjunct) rest = refl
step_is_read entry (Range column bound) Nested rest = refl
step_is_read entry (Range column bound) (Hash conjunct) rest = refl
step_is_read entry (Range column bound) (Merge conjunct) rest = refl

steps_are_read : (ss : List CodeStep) → steps_read (flat_map step_numbers ss) ≡ ss
steps_are_read [] = refl
steps_are_read (s ∷ ss) = step_is_read s.entry s.access s.method (flat_map step_numbers ss) ∙ ap (λ l. s ∷ l) (steps_are_read ss)

pub same_steps : (ss ts : List CodeStep) → flat_map step_numbers ss ≡ flat_map step_numbers ts → ss ≡ ts
same_steps ss ts e = sym (steps_are_read ss) ∙ ap steps_read e ∙ steps_are_read ts
