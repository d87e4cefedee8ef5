-- Results, one after another.
use Rattle.std.specs.Prelude.{List, [], ◌∷◌, Result, Ok, Err}

-- f of the value of a result, or the result's error
abbrev pub and_then : {X Y E : Type 0} → Result X E → (X → Result Y E) → Result Y E
and_then (Ok x) f = f x
and_then (Err e) f = Err e

-- one more value before the others; the first error from left to right
abbrev pub first_then : {X E : Type 0} → Result X E → Result (List X) E → Result (List X) E
first_then (Ok x) (Ok xs) = Ok (x ∷ xs)
first_then (Ok x) (Err e) = Err e
first_then (Err e) more = Err e

-- the values of a function on the elements, or the first error
abbrev pub on_each : {X Y E : Type 0} → (X → Result Y E) → List X → Result (List Y) E
on_each f [] = Ok []
on_each f (x ∷ xs) = first_then (f x) (on_each f xs)
