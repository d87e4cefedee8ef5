-- Results one after another: the values that are known, and then the rest.
use Rattle.std.proofs.Common.{◌≡◌, List, [], ◌∷◌, ◌++◌, refl, sym, ap, Result, Ok, Err}
use Rattle.std.proofs.lemmas.List.{append_assoc}
use Rattle.memory.specs.Results.{first_then}

-- more after the values that are known, or the error
abbrev pub after : {X E : Type 0} → List X → Result (List X) E → Result (List X) E
after known (Ok xs) = Ok (known ++ xs)
after known (Err e) = Err e

pub after_first : {X E : Type 0} (known : List X) (x : X) (r : Result (List X) E) → after known (first_then (Ok x) r) ≡ after (known ++ x ∷ []) r
after_first known x (Ok xs) = ap Ok (sym (append_assoc known (x ∷ []) xs))
after_first known x (Err e) = refl

pub after_nothing : {X E : Type 0} (r : Result (List X) E) → after [] r ≡ r
after_nothing (Ok xs) = refl
after_nothing (Err e) = refl
