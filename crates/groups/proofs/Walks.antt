-- A walk along a list that stops at the first fault: the part that is done, and then the rest.
use Rattle.std.proofs.Common.{◌≡◌, ℕ, ◌+◌, ◌<◌, List, [], ◌∷◌, ◌++◌, drop, length, get_or, sym, ap, ◌∙◌, Result, Ok}
use Rattle.std.proofs.lemmas.List.{append-nil, map-append, drop_more}
use Rattle.memory.specs.Gives.{IsFailure}
use Rattle.memory.proofs.Each.{after, after_first, after_nothing}
use Rattle.memory.specs.declared.failure.Failure.{Failure}
use Rattle.memory.specs.declared.failure.Failure.TheVariants as failures
use Rattle.value.specs.Datum.{Datum, datum, row_of}
use Rattle.value.specs.declared.types.Value.{Value}
use Rattle.value.specs.declared.faults.Fault.{Fault}
use Rattle.memory.specs.Results.{first_then}

-- the next element and the rest
pub next : {X : Type 0} (xs : List X) (i : ℕ) (x : X) → i < length xs → x ≡ get_or xs i x → drop i xs ≡ x ∷ drop (i + 1) xs
next xs i x lt is = drop_more xs i x lt ∙ ap (λ y. y ∷ drop (i + 1) xs) (sym is)

pub put_next : {A : Type 0} (xs : List (Value A)) (v : Value A) (r : Result (List Datum) Fault) → after (row_of (xs ++ v ∷ [])) r ≡ after (row_of xs) (first_then (Ok (datum v)) r)
put_next {A} xs v r = ap (λ l. after l r) (map-append (λ (w : Value A). datum w) xs (v ∷ [])) ∙ sym (after_first (row_of xs) (datum v) r)

-- a fault in the middle is the fault of all
pub fails_here : {X : Type 0} (done : List X) (failure : Failure Fault) (o : Result X Fault) (rest whole : Result (List X) Fault) → IsFailure failure o → after done (first_then o rest) ≡ whole → IsFailure failure whole
fails_here done (failures.Error f) o rest whole h is = sym is ∙ ap (λ r. after done (first_then r rest)) h
fails_here done failures.OutOfMemory o rest whole h is = tt

pub ruleset walks = (after_first, after_nothing, append-nil)
