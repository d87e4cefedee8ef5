-- The number that a text is written for.
use Rattle.std.proofs.Common.{◌≡◌, ℕ, ◌&&◌, ◌<◌, ◌^◌, nat_lt, Bool, true, false, if◌then◌else◌, List, Option, Some, None, Result, Ok, refl, sym, ap, ◌∙◌, arith}
use Rattle.std.specs.Fmt.{decimal}
use Rattle.std.specs.Str.{bytes_eq}
use Rattle.std.specs.Str.Parse.{digits_value, ParsesUnsigned}
use Rattle.std.proofs.lemmas.Bool.{and_parts, ltb-true, lt-ltb}
use Rattle.std.proofs.lemmas.Fmt.{decimal_is_IsNumeral_wide, parse-decimal_wide}
use Rattle.std.proofs.lemmas.Slice.Eq.{bytes_eq-Decides}
use Rattle.value.specs.Numbers.{number_below}

pub number_is : (limit n : ℕ) → n < limit → n < 10 ^ 64 → number_below limit (decimal n) ≡ Some n
number_is limit n h wide =
    let v : digits_value 10 (decimal n) ≡ n = (decimal_is_IsNumeral_wide n wide).1 in
    let same : bytes_eq (decimal n) (decimal n) ≡ true = (bytes_eq-Decides (decimal n) (decimal n)).1 refl in
    rw v (rw same (rw (lt-ltb n limit h) refl))

pub number_yes : (limit n : ℕ) (text : List ℕ) → decimal n ≡ text → n < limit → n < 10 ^ 64 → Some n ≡ number_below limit text
number_yes limit n text e h wide = sym (ap (number_below limit) (sym e) ∙ number_is limit n h wide)

number_no : (limit : ℕ) (text : List ℕ) → ((m : ℕ) → m < limit → text ≡ decimal m → ⊥) → None ≡ number_below limit text
number_no limit text never = go (bytes_eq text (decimal (digits_value 10 text)) && nat_lt (digits_value 10 text) limit) refl
  where
    go : (t : Bool) → (bytes_eq text (decimal (digits_value 10 text)) && nat_lt (digits_value 10 text) limit) ≡ t → ◌≡◌ {A = Option ℕ} None (if t then Some (digits_value 10 text) else None)
    go false e = refl
    go true e =
        let both = and_parts (bytes_eq text (decimal (digits_value 10 text))) (nat_lt (digits_value 10 text) limit) e in
        absurd (never (digits_value 10 text) (ltb-true (digits_value 10 text) limit both.1) ((bytes_eq-Decides text (decimal (digits_value 10 text))).0 both.0))

-- a text that parses as no number, or as another than it is written for, is none
pub parsed_no : {E : Type 0} (k : ℕ) (text : List ℕ) (r : Result ℕ E) → 2 ^ k < 10 ^ 64 → ParsesUnsigned k 10 text r → ((m : ℕ) → r ≡ Ok m → text ≡ decimal m → ⊥) → None ≡ number_below (2 ^ k) text
parsed_no k text r wide parses never = number_no (2 ^ k) text (λ m h e. never m (parse-decimal_wide k m text r h (omega arith) e parses) e)
