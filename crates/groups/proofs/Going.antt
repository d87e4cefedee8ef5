-- A stage goes on: its values so far, and then the rest.
use Rattle.std.proofs.Common.{◌≡◌, List, [], ◌∷◌, ◌++◌, map, refl, sym, ap, ap₂, ◌∙◌, Result, Ok, Err, Option, Some, None}
use Rattle.std.specs.List.{filter_map}
use Rattle.std.specs.Prelude.{option_map}
use Rattle.std.proofs.lemmas.List.{append_assoc, append-nil, map-append}
use Rattle.memory.specs.Gives.{Gives}
use Rattle.memory.specs.declared.failure.Failure.{Failure}
use Rattle.memory.specs.declared.failure.Failure.TheVariants as failures
use Rattle.bags.specs.Least.{lesser, least}
use Rattle.bags.proofs.Least.{lesser_none, lesser_assoc}
use Rattle.value.specs.declared.faults.Fault.{Fault}
use Rattle.groups.specs.Stages.{Fate, fault_cmp, fault_in, given_in, gives, unless_fault, stage}
use Rattle.groups.specs.Progress.{Adds, given}
use Rattle.groups.specs.declared.stage.Stage.{Stage}
use Rattle.groups.proofs.FaultOrder.{fault_total}

-- the result of a stage from this state on, by further outcomes
abbrev pub going_on : {Y : Type 0} → Option Fault → List Y → List (Fate Y) → Result (List Y) Fault
going_on known ys [] = unless_fault known ys
going_on known ys (Ok (Some y) ∷ fates) = going_on known (ys ++ y ∷ []) fates
going_on known ys (Ok None ∷ fates) = going_on known ys fates
going_on known ys (Err f ∷ fates) = going_on (lesser fault_cmp known (Some f)) ys fates

goes : {Y : Type 0} (known : Option Fault) (ys : List Y) (fates : List (Fate Y)) →
    going_on known ys fates ≡ unless_fault (lesser fault_cmp known (least fault_cmp (filter_map fault_in fates))) (ys ++ filter_map given_in fates)
goes known ys [] = ap₂ unless_fault (sym (lesser_none fault_cmp known)) (sym (append-nil ys))
goes known ys (Ok (Some y) ∷ fates) = goes known (ys ++ y ∷ []) fates ∙ ap (unless_fault (lesser fault_cmp known (least fault_cmp (filter_map fault_in fates)))) (append_assoc ys (y ∷ []) (filter_map given_in fates))
goes known ys (Ok None ∷ fates) = goes known ys fates
goes known ys (Err f ∷ fates) =
    goes (lesser fault_cmp known (Some f)) ys fates
    ∙ ap (λ o. unless_fault o (ys ++ filter_map given_in fates)) (lesser_assoc fault_cmp fault_total known (Some f) (least fault_cmp (filter_map fault_in fates)))

-- from the start it is the stage
pub stage_start : {X Y A : Type 0} (view : X → Y) (start : Stage X A) (fates : List (Fate Y)) → start.given ≡ [] → start.least ≡ None → going_on start.least (map view start.given) fates ≡ stage fates
stage_start view start fates none fine = ap₂ (λ known xs. going_on known (map view xs) fates) fine none ∙ goes None [] fates

one_more : {X Y A : Type 0} (view : X → Y) (outcome : Result (Option X) (Failure Fault)) (fate : Fate Y) (old new : Stage X A) (rest : List (Fate Y)) →
    Gives (option_map view) outcome fate → Adds outcome old new → going_on old.least (map view old.given) (fate ∷ rest) ≡ going_on new.least (map view new.given) rest
one_more view (Ok (Some x)) fate old new rest due adds =
    ap (λ o. going_on old.least (map view old.given) (o ∷ rest)) due
    ∙ ap₂ (λ f ys. going_on f ys rest) (sym adds.1) (sym (ap (map view) adds.0 ∙ map-append view old.given (x ∷ [])))
one_more view (Ok None) fate old new rest due adds =
    ap (λ o. going_on old.least (map view old.given) (o ∷ rest)) due ∙ ap₂ (λ f xs. going_on f (map view xs) rest) (sym adds.1) (sym adds.0)
one_more view (Err (failures.Error f)) fate old new rest due adds =
    ap (λ o. going_on old.least (map view old.given) (o ∷ rest)) due ∙ ap₂ (λ f xs. going_on f (map view xs) rest) (sym adds.1) (sym adds.0)
one_more view (Err failures.OutOfMemory) fate old new rest due adds = absurd adds

-- one combination or group later
pub stage_next : {X Y A : Type 0} (view : X → Y) (outcome : Result (Option X) (Failure Fault)) (fate : Fate Y) (old new : Stage X A) (fates rest : List (Fate Y)) (whole : Result (List Y) Fault) →
    fates ≡ fate ∷ rest → Gives (option_map view) outcome fate → Adds outcome old new → going_on old.least (map view old.given) fates ≡ whole → going_on new.least (map view new.given) rest ≡ whole
stage_next view outcome fate old new fates rest whole first due adds so_far =
    sym (one_more view outcome fate old new rest due adds) ∙ ap (going_on old.least (map view old.given)) (sym first) ∙ so_far

-- each gives a value
pub gives_some : {X Y : Type 0} (view : X → Y) (outcome : Result X (Failure Fault)) (due : Result Y Fault) → Gives view outcome due → Gives (option_map view) (given outcome) (gives due)
gives_some view (Ok x) due h = ap gives h
gives_some view (Err (failures.Error f)) due h = ap gives h
gives_some view (Err failures.OutOfMemory) due h = tt

over : {X Y : Type 0} → (X → Y) → Result (List X) Fault → Result (List Y) Fault
over view (Ok xs) = Ok (map view xs)
over view (Err f) = Err f

over_unless : {X Y : Type 0} (view : X → Y) (known : Option Fault) (xs : List X) → over view (unless_fault known xs) ≡ unless_fault known (map view xs)
unfolding over
over_unless view None xs = refl
over_unless view (Some f) xs = refl
