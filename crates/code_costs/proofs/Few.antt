-- The numbers of the entries of a problem, and what a list of steps is read with.
use Rattle.std.proofs.Common.{◌≡◌, ◌+◌, ◌-◌, ◌≤◌, ℕ, List, length, map, arith}
use Rattle.std.proofs.lemmas.List.{length-map}
use Rattle.expr.specs.declared.code.Access.TheVariants.{Full}
use Rattle.expr.specs.declared.code.CodeStep.{CodeStep}
use Rattle.expr.specs.declared.code.Method.TheVariants.{Nested}

-- the entries that are not left joined are no more than the guards
pub few_of : {X Y : Type 0} (n : ℕ) (f : X → Y) (xs : List X) → length xs ≤ 12 → length (map f xs) - n ≤ 12
few_of n f xs h = let l = length-map xs f in omega (arith, l)

-- all entries are few
pub few_all : {X Y : Type 0} (f : X → Y) (xs : List X) (i n : ℕ) → i ≡ length (map f xs) - n → n ≤ length xs → length xs ≤ 12 → i + n ≤ 12
few_all f xs i n e h few = let l = length-map xs f in omega (arith, l, e, h, few)

-- the first left joined entry is that after the others
pub first_of : {X Y Z W : Type 0} (n : ℕ) (f : X → Y) (g : Z → W) (xs : List X) (zs : List Z) → length xs ≡ length zs → length (map f xs) - n ≡ length (map g zs) - n
first_of n f g xs zs e = let l = length-map xs f in let m = length-map zs g in omega (arith, l, m, e)

-- what a list of steps is read with
abbrev pub no_step : CodeStep
no_step = record { entry = 0; access = Full; method = Nested }
