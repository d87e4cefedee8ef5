-- Bytes that are no UTF-8 spell no bigint and no truth value.
use Rattle.std.proofs.Common.{◌≡◌, ◌<◌, ℕ, zero, suc, Bool, true, false, not, ◌==◌, cond, List, [], ◌∷◌, All, Ok, Err, refl, sym, ap, subst, arith}
use Rattle.std.specs.List.{list_all}
use Rattle.std.specs.Str.{is_utf8, bytes_eq}
use Rattle.std.specs.Char.{is_ascii_digit}
use Rattle.std.proofs.lemmas.Str.{IsUtf8-from_ascii, is_utf8-from_IsUtf8, IsUtf8-from_is_utf8}
use Rattle.std.specs.Str.{IsUtf8}
use Rattle.std.proofs.lemmas.Str.Ascii.{IsAscii-from_all}
use Rattle.std.proofs.lemmas.Slice.Eq.{bytes_eq-Decides}
use Rattle.std.proofs.lemmas.Bool.Decides.{nat_tests}
use Rattle.value.specs.declared.types.FaultKind.TheVariants.{BadText}
use Rattle.value.specs.Texts.{is_positive, is_spelled, bigint_at, boolean_at, value_in}
use Rattle.value.specs.Exact.{as_number}
use Rattle.value.specs.Datum.{text}
use Rattle.value.specs.declared.types.ColType.TheVariants as types
use Rattle.value.proofs.DigitValue.{digit_high}
use Rattle.value.proofs.Spelling.{both}

digits_low : (ds : List ℕ) → list_all is_ascii_digit ds ≡ true → All (λ b. b < 128) ds
digits_low [] h k d lt = absurd (omega arith)
digits_low (x ∷ ds) h zero d lt = omega (arith, digit_high x (both (is_ascii_digit x) _ h).0)
digits_low (x ∷ ds) h (suc k) d lt = digits_low ds (both (is_ascii_digit x) _ h).1 k d (omega arith)

positive_low : (ds : List ℕ) → is_positive ds ≡ true → All (λ b. b < 128) ds
positive_low [] h = cc
positive_low (d ∷ ds) h = digits_low (d ∷ ds) (both (not (d == 48)) _ h).1

behind_low : (c : ℕ) (cs : List ℕ) → c < 128 → All (λ b. b < 128) cs → All (λ b. b < 128) (c ∷ cs)
behind_low c cs low h zero d lt = low
behind_low c cs low h (suc k) d lt = h k d (omega arith)

by_sign : (c : ℕ) (cs : List ℕ) (b : Bool) → (c == 45) ≡ b → cond b (is_positive cs) (is_positive (c ∷ cs)) ≡ true → All (λ b. b < 128) (c ∷ cs)
by_sign c cs true e h =
    let low : c < 128 = grind (arith, nat_tests) in
    behind_low c cs low (positive_low cs h)
by_sign c cs false e h = positive_low (c ∷ cs) h

spelled_low : (bs : List ℕ) → is_spelled bs ≡ true → All (λ b. b < 128) bs
spelled_low [] h = cc
spelled_low (c ∷ cs) h = by_sign c cs (c == 45) refl h

low_is_utf8 : (bs : List ℕ) → All (λ b. b < 128) bs → is_utf8 bs ≡ true
low_is_utf8 bs low = is_utf8-from_IsUtf8 bs (IsUtf8-from_ascii bs (IsAscii-from_all bs low))

letter_low : (c : ℕ) → c < 128 → All (λ b. b < 128) (c ∷ [])
letter_low c low = behind_low c [] low (λ k d lt. absurd (omega arith))

not_letter : (t : List ℕ) (c : ℕ) (b : Bool) → c < 128 → is_utf8 t ≡ false → bytes_eq t (c ∷ []) ≡ b → b ≡ false
not_letter t c true low none e =
    let same : t ≡ c ∷ [] = (bytes_eq-Decides t (c ∷ [])).0 e in
    cc (none, low_is_utf8 t (subst (All (λ b. b < 128)) (sym same) (letter_low c low)))
not_letter t c false low none e = refl

not_spelled : (t : List ℕ) (b : Bool) → is_utf8 t ≡ false → is_spelled t ≡ b → b ≡ false
not_spelled t true none e = cc (none, low_is_utf8 t (spelled_low t e))
not_spelled t false none e = refl

pub no_bigint : (t : List ℕ) → is_utf8 t ≡ false → bigint_at t ≡ Err BadText
no_bigint t none = rw (not_spelled t _ none refl, not_letter t 48 _ (omega arith) none refl) refl

pub no_boolean : (t : List ℕ) → is_utf8 t ≡ false → boolean_at t ≡ Err BadText
no_boolean t none = rw (not_letter t 116 _ (omega arith) none refl, not_letter t 102 _ (omega arith) none refl) refl

not_utf8 : (bs : List ℕ) (b : Bool) → is_utf8 bs ≡ b → ¬ (IsUtf8 bs) → b ≡ false
not_utf8 bs true e h = absurd (h (IsUtf8-from_is_utf8 bs e))
not_utf8 bs false e h = refl

pub is_utf8-no_IsUtf8 : (bs : List ℕ) → ¬ (IsUtf8 bs) → is_utf8 bs ≡ false
is_utf8-no_IsUtf8 bs h = not_utf8 bs _ refl h

-- so the bytes of a bigint and of a truth value need no test of UTF-8
pub bigint_in : (t : List ℕ) → as_number (bigint_at t) ≡ value_in types.Bigint t
bigint_in t = by (is_utf8 t) refl where
  by : (b : Bool) → is_utf8 t ≡ b → as_number (bigint_at t) ≡ cond b (as_number (bigint_at t)) (Err BadText)
  by true e = refl
  by false e = ap as_number (no_bigint t e)

pub boolean_in : (t : List ℕ) → boolean_at t ≡ value_in types.Boolean t
boolean_in t = by (is_utf8 t) refl where
  by : (b : Bool) → is_utf8 t ≡ b → boolean_at t ≡ cond b (boolean_at t) (Err BadText)
  by true e = refl
  by false e = no_boolean t e

pub text_in : (t : List ℕ) → IsUtf8 t → Ok (text t) ≡ value_in types.Text t
text_in t h = rw (is_utf8-from_IsUtf8 t h) refl

pub no_text : (t : List ℕ) → ¬ (IsUtf8 t) → Err BadText ≡ value_in types.Text t
no_text t h = rw (is_utf8-no_IsUtf8 t h) refl
