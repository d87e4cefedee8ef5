-- The steps of a stage in Rust.
use Rattle.std.specs.Prelude.{◌≡◌, Bool, true, false, [], ◌∷◌, ◌++◌, Option, Some, None, Result, Ok, Err, ⊤}
use Rattle.memory.specs.declared.failure.Failure.{Failure}
use Rattle.memory.specs.declared.failure.Failure.TheVariants as failures
use Rattle.bags.specs.Least.{lesser}
use Rattle.value.specs.declared.faults.Fault.{Fault}
use Rattle.groups.specs.Stages.{fault_cmp}
use Rattle.groups.specs.declared.stage.Stage.{Stage}

-- memory did not run out
abbrev pub HasMemory : {Y : Type 0} → Result Y (Failure Fault) → Type 0
HasMemory (Ok y) = ⊤
HasMemory (Err (failures.Error f)) = ⊤
HasMemory (Err failures.OutOfMemory) = ⊥

-- the outcome of one more is added; out of memory is not
abbrev pub Adds : {Y A : Type 0} → Result (Option Y) (Failure Fault) → Stage Y A → Stage Y A → Type 0
Adds (Ok (Some y)) old new = (new.given ≡ old.given ++ y ∷ []) × (new.least ≡ old.least)
Adds (Ok None) old new = (new.given ≡ old.given) × (new.least ≡ old.least)
Adds (Err (failures.Error f)) old new = (new.given ≡ old.given) × (new.least ≡ lesser fault_cmp old.least (Some f))
Adds (Err failures.OutOfMemory) old new = ⊥

-- it is added without memory, unless it gives a value
abbrev pub IsAddedInPlace : {Y : Type 0} → Result (Option Y) (Failure Fault) → Type 0
IsAddedInPlace (Ok (Some y)) = ⊥
IsAddedInPlace (Ok None) = ⊤
IsAddedInPlace (Err (failures.Error f)) = ⊤
IsAddedInPlace (Err failures.OutOfMemory) = ⊥

abbrev pub given : {Y : Type 0} → Result Y (Failure Fault) → Result (Option Y) (Failure Fault)
given (Ok y) = Ok (Some y)
given (Err failure) = Err failure

abbrev pub given_if : {Y : Type 0} → Y → Result Bool (Failure Fault) → Result (Option Y) (Failure Fault)
given_if y (Ok true) = Ok (Some y)
given_if y (Ok false) = Ok None
given_if y (Err failure) = Err failure
