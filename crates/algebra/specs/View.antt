-- The view of the Rust type of steps as spec data.
use Rattle.algebra.specs.declared.step.Step as declared
use Rattle.algebra.specs.Steps.{Step}

abbrev pub step_of : {A : Type 0} → declared.Step A → Step
step_of s = record { rule = s.rule; is_reverse = s.is_reverse; path = s.path; arguments = s.arguments }
