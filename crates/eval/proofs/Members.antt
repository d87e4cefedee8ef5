-- The steps of IN over its values.
use Rattle.std.proofs.Common.{◌≡◌, ℕ, suc, ◌+◌, ◌<◌, ◌≤◌, List, [], length, get_or, drop, drop-cons, map, refl, sym, ap, ◌∙◌, arith}
use Rattle.std.proofs.Math.ListN.{drop_of_length-le}
use Rattle.value.specs.declared.order.Truth.{Truth}
use Rattle.value.specs.declared.order.Truth.TheVariants.{False, Unknown, True}
use Rattle.value.specs.declared.types.Value.{Value}
use Rattle.value.specs.Truths.{greatest}
use Rattle.value.specs.Datum.{Datum, datum}
use Rattle.value.specs.Orders.{equal_of}
use Rattle.eval.specs.Operators.{in_of}

pub greatest_false : (a : Truth) → greatest a False ≡ a
greatest_false False = refl
greatest_false Unknown = refl
greatest_false True = refl

pub false_greatest : (a : Truth) → greatest False a ≡ a
false_greatest False = refl
false_greatest Unknown = refl
false_greatest True = refl

greatest_assoc : (a b c : Truth) → greatest (greatest a b) c ≡ greatest a (greatest b c)
greatest_assoc False b c = ap (λ t. greatest t c) (false_greatest b) ∙ sym (false_greatest (greatest b c))
greatest_assoc Unknown False False = refl
greatest_assoc Unknown False Unknown = refl
greatest_assoc Unknown False True = refl
greatest_assoc Unknown Unknown False = refl
greatest_assoc Unknown Unknown Unknown = refl
greatest_assoc Unknown Unknown True = refl
greatest_assoc Unknown True False = refl
greatest_assoc Unknown True Unknown = refl
greatest_assoc Unknown True True = refl
greatest_assoc True False False = refl
greatest_assoc True False Unknown = refl
greatest_assoc True False True = refl
greatest_assoc True Unknown False = refl
greatest_assoc True Unknown Unknown = refl
greatest_assoc True Unknown True = refl
greatest_assoc True True False = refl
greatest_assoc True True Unknown = refl
greatest_assoc True True True = refl

module _ {A : Type 0} (x : Datum) (values : List (Value A)) (k : ℕ) (known : Truth) (so_far : greatest known (in_of x (map datum (drop k values))) ≡ in_of x (map datum values)) where
  pub in_over : length values ≤ k → known ≡ in_of x (map datum values)
  in_over l = let e : drop k values ≡ [] = drop_of_length-le values l in sym (greatest_false known) ∙ ap (λ vs. greatest known (in_of x (map datum vs))) (sym e) ∙ so_far

  pub in_step : (v : Value A) → k < length values → v ≡ get_or values k v → (t new : Truth) → t ≡ equal_of x (datum v) → new ≡ greatest known t → greatest new (in_of x (map datum (drop (k + 1) values))) ≡ in_of x (map datum values)
  in_step v more is t new same n =
      let one : k + 1 ≡ suc k = omega arith in
      let next : in_of x (map datum (drop k values)) ≡ greatest (equal_of x (datum v)) (in_of x (map datum (drop (k + 1) values))) = rw (one, drop-cons values k v more, ← is) refl in
      rw (n, same) (greatest_assoc known (equal_of x (datum v)) (in_of x (map datum (drop (k + 1) values))) ∙ ap (λ t. greatest known t) (sym next) ∙ so_far)
