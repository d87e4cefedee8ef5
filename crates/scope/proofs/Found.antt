-- The steps of the search for tables.
use Rattle.std.proofs.Common.{◌≡◌, ℕ, suc, ◌+◌, ◌<◌, ◌≤◌, List, [], ◌∷◌, ◌++◌, length, map, get_or, drop, drop-cons, append-nil, Result, Ok, Err, refl, sym, ap, ◌∙◌, arith}
use Rattle.std.proofs.Math.ListN.{drop_of_length-le}
use Rattle.memory.specs.Gives.{Gives}
use Rattle.memory.specs.declared.failure.Failure.{Failure}
use Rattle.memory.specs.declared.failure.Failure.TheVariants as failure
use Rattle.memory.specs.Results.{and_then, first_then, on_each}
use Rattle.memory.proofs.Cases.{ok_is}
use Rattle.expr.specs.Bound.{BoundExpr}
use Rattle.scope.specs.declared.error.BindError.{BindError}
use Rattle.scope.specs.BoundExprs.{pair}
use Rattle.memory.proofs.Each.{after, after_first}

-- a failure of a part is one of the whole
pub failed : {X Y Z W E : Type 0} (v : X → Y) (w : Z → W) (e : Failure E) (stated : Result Y E) (f : Y → Result W E) (whole : Result W E) → and_then stated f ≡ whole → Gives v (Err e) stated → Gives w (Err e) whole
failed v w (failure.Error fault) stated f whole so_far h = sym so_far ∙ ap (λ r. and_then r f) h
failed v w failure.OutOfMemory stated f whole so_far h = tt

-- the parts of what is given
pub first_given : {X E : Type 0} (r : Result X E) (rs : Result (List X) E) (xs : List X) → first_then r rs ≡ Ok xs → (x : X) × (more : List X) × (r ≡ Ok x) × (rs ≡ Ok more) × (x ∷ more ≡ xs)
first_given (Ok x) (Ok more) xs e = (x, more, refl, refl, ok_is (x ∷ more) xs e)
first_given (Ok x) (Err fault) xs e = absurd (cc)
first_given (Err fault) rs xs e = absurd (cc)

pub pair_given : (r s : Result BoundExpr BindError) (p : BoundExpr × BoundExpr) → pair r s ≡ Ok p → (x : BoundExpr) × (y : BoundExpr) × (r ≡ Ok x) × (s ≡ Ok y) × ((x, y) ≡ p)
pair_given (Ok x) (Ok y) p e = (x, y, refl, refl, ok_is (x, y) p e)
pair_given (Ok x) (Err fault) p e = absurd (cc)
pair_given (Err fault) s p e = absurd (cc)

-- the values of a function on the elements, after those that are known
abbrev pub each_after : {X Y E : Type 0} → (X → Result Y E) → List Y → List X → Result (List Y) E
each_after f known xs = after known (on_each f xs)

pub each_next : {X Y E : Type 0} (f : X → Result Y E) (known : List Y) (x : X) (xs : List X) → each_after f known (x ∷ xs) ≡ and_then (f x) (λ y. each_after f (known ++ y ∷ []) xs)
each_next {X} {Y} {E} f known x xs = go (f x)
  where
    go : (r : Result Y E) → after known (first_then r (on_each f xs)) ≡ and_then r (λ y. each_after f (known ++ y ∷ []) xs)
    go (Ok y) = after_first known y (on_each f xs)
    go (Err e) = refl

pub each_over : {X Y E : Type 0} (f : X → Result Y E) (known : List Y) → each_after f known [] ≡ Ok known
each_over f known = ap Ok (append-nil known)

-- the known part grows by the result of each item, until one gives an error
module _ {W X B E : Type 0} (step : B → W → Result X E) (grown : B → X → B) (all : B → List W → Result B E) where
  module _ {Y : Type 0} (g : Y → W) (ys : List Y) (k : ℕ) (known : B) (whole : Result B E) (so_far : all known (map g (drop k ys)) ≡ whole) where
    -- nothing is left
    pub walk_over : ((known : B) → all known [] ≡ Ok known) → length ys ≤ k → whole ≡ Ok known
    walk_over law l = let e : drop k ys ≡ [] = drop_of_length-le ys l in sym so_far ∙ ap (λ zs. all known (map g zs)) e ∙ law known

    module _ (law : (known : B) (w : W) (ws : List W) → all known (w ∷ ws) ≡ and_then (step known w) (λ x. all (grown known x) ws)) (y : Y) (more : k < length ys) (is : y ≡ get_or ys k y) where
      -- the next item
      pub walk_opened : and_then (step known (g y)) (λ x. all (grown known x) (map g (drop (k + 1) ys))) ≡ whole
      walk_opened =
          let n : k + 1 ≡ suc k = omega arith in
          let e : map g (drop k ys) ≡ g y ∷ map g (drop (k + 1) ys) = rw (n, drop-cons ys k y more, ← is) refl in
          sym (law known (g y) (map g (drop (k + 1) ys))) ∙ ap (all known) (sym e) ∙ so_far

      -- it gives x
      pub walk_next : (x : X) → step known (g y) ≡ Ok x → (new : B) → new ≡ grown known x → all new (map g (drop (k + 1) ys)) ≡ whole
      walk_next x h new n = rw n (ap (λ r. and_then r (λ x. all (grown known x) (map g (drop (k + 1) ys)))) (sym h) ∙ walk_opened)

-- a function of a part that is given
pub given : {X Y Z E : Type 0} (v : X → Y) (result : Result X (Failure E)) (stated : Result Z E) (z : Z) (f : Z → Result Y E) → stated ≡ Ok z → Gives v result (f z) → Gives v result (and_then stated f)
given v result stated z f e h = rw e h
