-- The outcome that a mark keeps.
use Rattle.std.specs.Prelude.{Ok, Err}
use Rattle.value.specs.Datum.{datum}
use Rattle.eval.specs.Meaning.{Outcome}
use Rattle.eval.specs.declared.marks.Mark.{Mark}
use Rattle.eval.specs.declared.marks.Mark.TheVariants.{Value, Fault}

-- the value, or the fault
abbrev pub outcome_of : {A : Type 0} → Mark A → Outcome
outcome_of (Value v) = Ok (datum v)
outcome_of (Fault f) = Err f
