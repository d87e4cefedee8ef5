-- A check, and the step after it.
use Rattle.std.proofs.Common.{◌≡◌, Option, Some, None, Result, Err, refl}
use Rattle.scope.specs.declared.error.BindError.{BindError}
use Rattle.memory.specs.Results.{and_then}
use Rattle.resolve.specs.Resolved.{unless_fault}

module _ {X Y : Type 0} (fault : Option BindError) (x : X) (next : X → Result Y BindError) where
  pub fault_found : (e : BindError) → fault ≡ Some e → and_then (unless_fault fault x) next ≡ Err e
  fault_found e is = rw is refl

  pub none_found : fault ≡ None → and_then (unless_fault fault x) next ≡ next x
  none_found is = rw is refl
