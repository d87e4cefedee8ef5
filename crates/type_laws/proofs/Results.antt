-- What holds of the types that type checking finds.
use Rattle.std.proofs.Common.{◌≡◌, ℕ, Bool, true, false, ◌&&◌, List, ◌∷◌, Option, Some, None, Result, Ok, Err, IfOk, IfSome, refl}
use Rattle.memory.specs.Results.{and_then, first_then}
use Rattle.value.specs.declared.types.ColType.TheVariants.{Boolean}
use Rattle.typing.specs.Typing.{TypeOf, common_or_fault, truth_if_common, type_if}

pub both_true : (a b : Bool) → a && b ≡ true → (a ≡ true) × (b ≡ true)
both_true true b h = (refl, h)
both_true false b h = absurd (cc)

module _ {X Y E : Type 0} (P : X → Type 0) (Q : Y → Type 0) where
  pub ok_then : (r : Result X E) (f : X → Result Y E) → IfOk r P → ((x : X) → P x → IfOk (f x) Q) → IfOk (and_then r f) Q
  ok_then (Ok x) f h next = next x h
  ok_then (Err e) f h next = tt

module _ {X E : Type 0} (P : X → Type 0) (Q S : List X → Type 0) where
  pub ok_first : (r : Result X E) (rs : Result (List X) E) → IfOk r P → IfOk rs Q → ((x : X) (xs : List X) → P x → Q xs → S (x ∷ xs)) → IfOk (first_then r rs) S
  ok_first (Ok x) (Ok xs) h k next = next x xs h k
  ok_first (Ok x) (Err e) h k next = tt
  ok_first (Err e) rs h k next = tt

module _ (Q : TypeOf → Type 0) (offset : ℕ) where
  pub ok_if : (holds : Bool) (t : TypeOf) → (holds ≡ true → Q t) → IfOk (type_if offset holds t) Q
  ok_if true t h = h refl
  ok_if false t h = tt

  pub ok_if_common : (o : Option TypeOf) → IfSome o (λ c. Q (Some Boolean)) → IfOk (truth_if_common offset o) Q
  ok_if_common None h = tt
  ok_if_common (Some c) h = h

  pub ok_or_fault : (o : Option TypeOf) → IfSome o Q → IfOk (common_or_fault offset o) Q
  ok_or_fault None h = tt
  ok_or_fault (Some c) h = h
