-- One more value of a list that is being made.
use Rattle.std.proofs.Common.{◌≡◌, ◌++◌, [], ◌∷◌, List, map, Result, Ok, ap, sym, ◌∙◌}
use Rattle.std.proofs.lemmas.List.{map-append}
use Rattle.value.specs.Datum.{Datum}
use Rattle.value.specs.declared.faults.Fault.{Fault}
use Rattle.memory.specs.Results.{first_then}
use Rattle.memory.proofs.Each.{after, after_first}

-- a value is put: the part that is done, and then the rest, is still the whole
pub put_step : {V : Type 0} (view : V → Datum) (done new : List V) (v : V) (o : Result Datum Fault) (rest here whole : Result (List Datum) Fault) → here ≡ first_then o rest → after (map view done) here ≡ whole → o ≡ Ok (view v) → new ≡ done ++ v ∷ [] → after (map view new) rest ≡ whole
put_step view done new v o rest here whole is so_far given pushed =
    ap (λ l. after (map view l) rest) pushed ∙ ap (λ l. after l rest) (map-append view done (v ∷ [])) ∙ sym (after_first (map view done) (view v) rest)
    ∙ ap (λ x. after (map view done) (first_then x rest)) (sym given) ∙ ap (after (map view done)) (sym is) ∙ so_far
