-- Values pushed after others.
use Rattle.std.specs.Prelude.{[], ◌∷◌, ◌++◌, Result, Ok, Err}
use Rattle.value.specs.Datum.{Row}
use Rattle.value.specs.declared.faults.Fault.{Fault}
use Rattle.eval.specs.Meaning.{Outcome}

-- a value after others, or its fault
abbrev pub value_after : Row → Outcome → Result Row Fault
value_after row (Ok d) = Ok (row ++ d ∷ [])
value_after row (Err fault) = Err fault

-- values after others, or a fault
abbrev pub values_after : Row → Result Row Fault → Result Row Fault
values_after row (Ok more) = Ok (row ++ more)
values_after row (Err fault) = Err fault
