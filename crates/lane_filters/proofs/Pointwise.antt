-- Results that are all Ok, item by item.
use Rattle.std.proofs.Common.{◌≡◌, List, [], ◌∷◌, map, length, Result, Ok, refl, sym, ap, ◌∙◌}
use Rattle.std.specs.Simd.Lanes.{zip2}
use Rattle.std.proofs.lemmas.List.{length-map}

module _ {R X Y E : Type 0} (f : R → Result X E) (g : R → Result Y E) (h : X → Y) (each : (r : R) (x : X) → f r ≡ Ok x → g r ≡ Ok (h x)) where
  pub one_by_one : (rows : List R) (xs : List X) → map f rows ≡ map Ok xs → map g rows ≡ map Ok (map h xs)
  one_by_one [] [] e = refl
  one_by_one [] (x ∷ xs) e = cc
  one_by_one (r ∷ rows) [] e = cc
  one_by_one (r ∷ rows) (x ∷ xs) e =
      let here : f r ≡ Ok x = cc in
      let rest : map f rows ≡ map Ok xs = cc in
      λ p. each r x here p ∷ one_by_one rows xs rest p

module _ {R X Y Z E : Type 0} (f : R → Result X E) (g : R → Result Y E) (k : R → Result Z E) (h : X → Y → Z) (each : (r : R) (x : X) (y : Y) → f r ≡ Ok x → g r ≡ Ok y → k r ≡ Ok (h x y)) where
  pub side_by_side : (rows : List R) (xs : List X) (ys : List Y) → map f rows ≡ map Ok xs → map g rows ≡ map Ok ys → map k rows ≡ map Ok (zip2 h xs ys)
  side_by_side [] [] ys e d = refl
  side_by_side [] (x ∷ xs) ys e d = cc
  side_by_side (r ∷ rows) [] ys e d = cc
  side_by_side (r ∷ rows) (x ∷ xs) [] e d = cc
  side_by_side (r ∷ rows) (x ∷ xs) (y ∷ ys) e d =
      let here : f r ≡ Ok x = cc in
      let there : g r ≡ Ok y = cc in
      let rest : map f rows ≡ map Ok xs = cc in
      let others : map g rows ≡ map Ok ys = cc in
      λ p. each r x y here there p ∷ side_by_side rows xs ys rest others p

-- the same value of each
pub all_same : {R X E : Type 0} (f : R → Result X E) (x : X) → ((r : R) → f r ≡ Ok x) → (rows : List R) → map f rows ≡ map Ok (map (λ _. x) rows)
all_same f x each [] = refl
all_same f x each (r ∷ rows) = λ p. each r p ∷ all_same f x each rows p

pub of_values : {R X E : Type 0} (f : R → Result X E) (v : R → X) → ((r : R) → f r ≡ Ok (v r)) → (rows : List R) → map f rows ≡ map Ok (map v rows)
of_values f v each [] = refl
of_values f v each (r ∷ rows) = λ p. each r p ∷ of_values f v each rows p

pub as_many : {R X E : Type 0} (f : R → Result X E) (rows : List R) (xs : List X) → map f rows ≡ map Ok xs → length xs ≡ length rows
as_many f rows xs e = sym (length-map xs Ok) ∙ sym (ap length e) ∙ length-map rows f
