-- The result of `parse` on a text that is spelled as a bigint.
use Rattle.std.proofs.Common.{◌≡◌, ℕ, ℤ, Bool, true, false, ◌&&◌, not, ◌==◌, cond, List, [], ◌∷◌, Err, refl, sym, ◌∙◌, ap, arith, FitsSigned, w64}
use Rattle.std.specs.List.{list_all}
use Rattle.std.specs.Str.{all_ascii_digits}
use Rattle.std.specs.Char.{is_ascii_digit}
use Rattle.std.specs.Str.Parse.{IsNumeral, digits_value, without_leading_sign, signed_digits_value}
use Rattle.std.proofs.lemmas.Str.Parse.{IsNumeralModel, numerals_by_value, tells_all_ascii_digits}
use Rattle.std.proofs.lemmas.Bool.Decides.{nat_tests}
use Rattle.value.specs.declared.types.FaultKind.TheVariants.{Range}
use Rattle.value.specs.Exact.{in_range, is_bigint}
use Rattle.value.specs.Texts.{is_positive, is_spelled, spelled, bigint_at}

pub own : IsNumeralModel (λ ds. all_ascii_digits ds ≡ true) (digits_value 10)
own = numerals_by_value (λ ds. all_ascii_digits ds ≡ true) tells_all_ascii_digits

pub same_test : (ds : List ℕ) → list_all is_ascii_digit ds ≡ all_ascii_digits ds
same_test [] = refl
same_test (d ∷ ds) = ap (λ b. is_ascii_digit d && b) (same_test ds)

pub both : (a b : Bool) → a && b ≡ true → (a ≡ true) × (b ≡ true)
both true b h = (refl, h)
both false b h = (h, cc)

pub numeral : (ds : List ℕ) → is_positive ds ≡ true → IsNumeral 10 ds
numeral [] h = cc
numeral (d ∷ ds) h = (omega arith, own.to (d ∷ ds) (sym (same_test (d ∷ ds)) ∙ (both (not (d == 48)) _ h).1))

fits : (z : ℤ) → is_bigint z ≡ true → FitsSigned w64 z
fits z h = grind (arith, nat_tests)

minus : (c : ℕ) (cs : List ℕ) → (c == 45) ≡ true → is_positive cs ≡ true → IsNumeral 10 (without_leading_sign (c ∷ cs)) × (signed_digits_value 10 (c ∷ cs) ≡ spelled (c ∷ cs))
minus c cs e h = rw e (numeral cs h, refl)

plain : (c : ℕ) (cs : List ℕ) → (c == 45) ≡ false → is_positive (c ∷ cs) ≡ true → IsNumeral 10 (without_leading_sign (c ∷ cs)) × (signed_digits_value 10 (c ∷ cs) ≡ spelled (c ∷ cs))
plain c cs e h =
    let digit : is_ascii_digit c ≡ true = (both (is_ascii_digit c) _ (both (not (c == 48)) _ h).1).0 in
    let no_plus : (c == 43) ≡ false = grind (arith, nat_tests) in
    rw (e, no_plus) (numeral (c ∷ cs) h, refl)

by_sign : (c : ℕ) (cs : List ℕ) (b : Bool) → (c == 45) ≡ b → cond b (is_positive cs) (is_positive (c ∷ cs)) ≡ true → IsNumeral 10 (without_leading_sign (c ∷ cs)) × (signed_digits_value 10 (c ∷ cs) ≡ spelled (c ∷ cs))
by_sign c cs true e h = minus c cs e h
by_sign c cs false e h = plain c cs e h

pub same_number : (bs : List ℕ) → is_spelled bs ≡ true → IsNumeral 10 (without_leading_sign bs) × (signed_digits_value 10 bs ≡ spelled bs)
same_number [] h = cc
same_number (c ∷ cs) h = by_sign c cs (c == 45) refl h

out_of_range : (z : ℤ) → (FitsSigned w64 z → ⊥) → in_range z ≡ Err Range
out_of_range z h = by_range z (is_bigint z) refl h where
  by_range : (z : ℤ) (b : Bool) → is_bigint z ≡ b → (FitsSigned w64 z → ⊥) → in_range z ≡ Err Range
  by_range z true e h = absurd (h (fits z e))
  by_range z false e h = rw e

pub parsed_err : (bs : List ℕ) → is_spelled bs ≡ true → (IsNumeral 10 (without_leading_sign bs) × FitsSigned w64 (signed_digits_value 10 bs) → ⊥) → Err Range ≡ bigint_at bs
parsed_err bs s h =
    let same = same_number bs s in
    rw s (sym (out_of_range (spelled bs) (λ f. h (same.0, rw same.1 f))))
