-- Values that are pushed one after the other: those that are there, and then the rest.
use Rattle.std.proofs.Common.{◌≡◌, [], ◌∷◌, ◌++◌, append_assoc, refl, sym, ap, ◌∙◌, true≢false, Bool, true, false, Result, Ok, Err}
use Rattle.memory.specs.Gives.{IsFailure}
use Rattle.memory.specs.Results.{first_then}
use Rattle.memory.specs.declared.failure.Failure.{Failure}
use Rattle.memory.specs.declared.failure.Failure.TheVariants as failures
use Rattle.value.specs.Datum.{Row}
use Rattle.value.specs.declared.faults.Fault.{Fault}
use Rattle.eval.specs.Meaning.{Outcome}
use Rattle.report.specs.Pushed.{value_after, values_after}

abbrev row_or : Row → Result Row Fault → Row
row_or other (Ok row) = row
row_or other (Err fault) = other

abbrev is_row : Result Row Fault → Bool
is_row (Ok row) = true
is_row (Err fault) = false

after_one : (before : Row) (now : Row) (o : Outcome) (rest : Result Row Fault) → value_after before o ≡ Ok now → values_after now rest ≡ values_after before (first_then o rest)
after_one before now (Ok d) (Ok more) e = ap (λ row. Ok (row ++ more)) (sym (ap (row_or now) e)) ∙ ap Ok (append_assoc before (d ∷ []) more)
after_one before now (Ok d) (Err fault) e = refl
after_one before now (Err fault) rest e = absurd (true≢false (sym (ap is_row e)))

-- one more is pushed
pub pushed_one : (before now : Row) (o : Outcome) (rest all whole : Result Row Fault) → value_after before o ≡ Ok now → all ≡ first_then o rest → values_after before all ≡ whole → values_after now rest ≡ whole
pushed_one before now o rest all whole e is h = after_one before now o rest e ∙ ap (values_after before) (sym is) ∙ h

-- a fault in the middle is the fault of all
pub fails_here : (failure : Failure Fault) (before : Row) (o : Outcome) (rest all whole : Result Row Fault) → IsFailure failure (value_after before o) → all ≡ first_then o rest → values_after before all ≡ whole → IsFailure failure whole
fails_here (failures.Error f) before (Ok d) rest all whole h is e = absurd (true≢false (ap is_row h))
fails_here (failures.Error f) before (Err fault) rest all whole h is e = sym e ∙ ap (values_after before) is ∙ h
fails_here failures.OutOfMemory before o rest all whole h is e = tt
