-- Checks in order: the first that holds refuses.
use Rattle.std.specs.Prelude.{Bool, List, [], ◌∷◌, Option, Some, None, if◌then◌else◌}
use Rattle.value.specs.declared.refusal.Refusal.{Refusal}

-- a test, and the refusal where it holds
abbrev pub Check : Type 0
Check = Bool × Refusal

abbrev pub first_refusal : List Check → Option Refusal
first_refusal [] = None
first_refusal (c ∷ cs) = if c.0 then Some c.1 else first_refusal cs
