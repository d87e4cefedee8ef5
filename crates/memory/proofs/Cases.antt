-- Truth values, options, results and lists by their cases, and the failure that `?` hands on.
use Rattle.std.proofs.Common.{◌≡◌, ◌||◌, Bool, true, false, List, [], ◌∷◌, Option, Some, None, Result, Ok, Err, IsErrAnd, OnErr, OnOk, refl}
use Rattle.memory.specs.Gives.{Gives, IsFailure}
use Rattle.memory.specs.declared.failure.Failure.{Failure}

pub some_is : {X : Type 0} (x y : X) → ◌≡◌ {A = Option X} (Some x) (Some y) → x ≡ y
some_is x y e = cc

pub none_is_not : {X : Type 0} (x : X) → ◌≡◌ {A = Option X} None (Some x) → ⊥
none_is_not x e = cc

pub some_is_not : {X : Type 0} (x : X) → ◌≡◌ {A = Option X} (Some x) None → ⊥
some_is_not x e = cc

pub nil_is_not : {X : Type 0} (x : X) (xs : List X) → ◌≡◌ {A = List X} [] (x ∷ xs) → ⊥
nil_is_not x xs e = cc

pub ok_is : {X E : Type 0} (x y : X) → ◌≡◌ {A = Result X E} (Ok x) (Ok y) → x ≡ y
ok_is x y e = cc

-- the failure of a call that `?` hands on is that of the whole
pub exits : {X Y E : Type 0} (view : X → Y) (r : Result X (Failure E)) (f : Failure E) (stated : Result Y E) → IsErrAnd r (λ e. e ≡ f) → IsFailure f stated → Gives view r stated
exits view (Ok x) f stated is h = absurd is
exits view (Err e) f stated is h = rw is h

pub at_err : {T E : Type 0} {P : Type 0} (r : Result T E) → P → OnErr r P
at_err (Ok x) p = tt
at_err (Err e) p = p

-- a fact of the outcome, from another fact
pub on_ok : {T E : Type 0} (r : Result T E) (P Q : Type 0) → (P → Q) → OnOk r P → OnOk r Q
on_ok (Ok x) P Q f h = f h
on_ok (Err e) P Q f h = tt

pub or_second : (a b : Bool) → b ≡ true → (a || b) ≡ true
or_second true b h = refl
or_second false b h = h
