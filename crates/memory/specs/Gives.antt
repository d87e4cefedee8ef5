-- The result of a call that may run out of memory.
use Rattle.std.specs.Prelude.{◌≡◌, Result, Ok, Err, ⊤}
use Rattle.memory.specs.declared.failure.Failure.{Failure}
use Rattle.memory.specs.declared.failure.Failure.TheVariants.{Error, OutOfMemory}

-- the error is the stated one; out of memory says nothing
abbrev pub IsFailure : {Y E : Type 0} → Failure E → Result Y E → Type 0
IsFailure (Error e) stated = stated ≡ Err e
IsFailure OutOfMemory stated = ⊤

-- the result, seen by view, is the stated one, unless memory ran out
abbrev pub Gives : {X Y E : Type 0} → (X → Y) → Result X (Failure E) → Result Y E → Type 0
Gives view (Ok x) stated = stated ≡ Ok (view x)
Gives view (Err failure) stated = IsFailure failure stated
