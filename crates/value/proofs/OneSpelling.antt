-- A bigint has one text.
use Rattle.std.proofs.Common.{◌≡◌, ◌≢◌, ℕ, ℤ, pos, negsuc, neg_ℤ, zero, suc, Bool, true, false, not, ◌==◌, cond, List, [], ◌∷◌, length, get_or, ◌<◌, ◌^◌, Result, Ok, Err, refl, sym, ◌∙◌, ap, arith, rules, ◌⊎◌, inl, inr}
use Rattle.std.specs.List.{list_all}
use Rattle.std.specs.Str.{all_ascii_digits, bytes_eq}
use Rattle.std.specs.Char.{is_ascii_digit}
use Rattle.std.specs.Fmt.{signed_decimal, decimal}
use Rattle.std.specs.Str.Parse.{digits_value}
use Rattle.std.proofs.lemmas.Fmt.{decimal_digit, first_decimal, digits_decimal, digits_value-decimal, decimal-digits_value}
use Rattle.std.proofs.lemmas.Slice.Eq.{bytes_eq-Decides}
use Rattle.std.proofs.lemmas.Bool.Decides.{nat_tests}
use Rattle.memory.proofs.Cases.{ok_is}
use Rattle.value.specs.declared.types.FaultKind.{FaultKind}
use Rattle.value.specs.declared.types.FaultKind.TheVariants.{BadText, Range}
use Rattle.value.specs.Exact.{in_range, is_bigint}
use Rattle.value.specs.Texts.{is_positive, is_spelled, spelled, bigint_at}
use Rattle.value.proofs.Spelling.{own, same_test, both}

pub chosen : {A : Type 0} (b : Bool) (x y z : A) → cond b x y ≡ z → ((b ≡ true) × (x ≡ z)) ⊎ ((b ≡ false) × (y ≡ z))
chosen true x y z h = inl (refl, h)
chosen false x y z h = inr (refl, h)

-- ---- a written bigint is read again

positive : (ds : List ℕ) → all_ascii_digits ds ≡ true → 48 < get_or ds 0 0 → is_positive ds ≡ true
positive [] h k = absurd (omega arith)
positive (d ∷ ds) h k =
    let other : (d == 48) ≡ false = grind (arith, nat_tests) in
    rw other (same_test (d ∷ ds) ∙ h)

unsigned : (ds : List ℕ) → all_ascii_digits ds ≡ true → 48 < get_or ds 0 0 → (is_spelled ds ≡ true) × (spelled ds ≡ pos (digits_value 10 ds))
unsigned [] h k = absurd (omega arith)
unsigned (d ∷ ds) h k =
    let other : (d == 45) ≡ false = grind (arith, nat_tests) in
    rw other (positive (d ∷ ds) h k, refl)

read_spelled : (t : List ℕ) (z : ℤ) → is_spelled t ≡ true → spelled t ≡ z → is_bigint z ≡ true → bigint_at t ≡ Ok z
read_spelled t z s e f = rw (s, e, f)

read_positive : (n : ℕ) → 0 < n → n < 2 ^ 63 → bigint_at (decimal n) ≡ Ok (pos n)
read_positive n h k =
    let u = unsigned (decimal n) (digits_decimal own n (omega arith)) (first_decimal n h (omega arith)) in
    read_spelled (decimal n) (pos n) u.0 (u.1 ∙ ap pos (digits_value-decimal own n (omega arith))) (search (rules, nat_tests))

read_negative : (n : ℕ) → n < 2 ^ 63 → bigint_at (45 ∷ decimal (suc n)) ≡ Ok (negsuc n)
read_negative n k =
    let p = positive (decimal (suc n)) (digits_decimal own (suc n) (omega arith)) (first_decimal (suc n) (omega arith) (omega arith)) in
    read_spelled (45 ∷ decimal (suc n)) (negsuc n) p (ap (λ m. neg_ℤ (pos m)) (digits_value-decimal own (suc n) (omega arith))) (search (rules, nat_tests))

pub read_again : (z : ℤ) → is_bigint z ≡ true → bigint_at (signed_decimal z) ≡ Ok z
read_again (pos zero) h = rw (decimal_digit 0 (omega arith)) refl
read_again (pos (suc n)) h = read_positive (suc n) (omega arith) (grind (arith, nat_tests))
read_again (negsuc n) h = read_negative n (grind (arith, nat_tests))

-- ---- nothing else is read as it

err_is : (k : FaultKind) (z : ℤ) → ◌≡◌ {A = Result ℤ FaultKind} (Err k) (Ok z) → ⊥
err_is k z h = cc

ranged_by : (x z : ℤ) (b : Bool) → is_bigint x ≡ b → in_range x ≡ Ok z → (x ≡ z) × (is_bigint x ≡ true)
ranged_by x z true e h = let same = rw e at h in (ok_is x z same, e)
ranged_by x z false e h = absurd (err_is Range z (rw e at h))

ranged : (x z : ℤ) → in_range x ≡ Ok z → (x ≡ z) × (is_bigint x ≡ true)
ranged x z h = ranged_by x z (is_bigint x) refl h

first_digit : (ds : List ℕ) → is_positive ds ≡ true → (0 < length ds) × (get_or ds 0 0 ≢ 48)
first_digit [] h = cc
first_digit (d ∷ ds) h = let p = (both (not (d == 48)) _ h).0 in (omega arith, λ e. grind (arith, nat_tests))

all_digits : (ds : List ℕ) → is_positive ds ≡ true → list_all is_ascii_digit ds ≡ true
all_digits [] h = refl
all_digits (d ∷ ds) h = (both (not (d == 48)) _ h).1

text_of_positive : (ds : List ℕ) → is_positive ds ≡ true → digits_value 10 ds < 2 ^ 64 → (decimal (digits_value 10 ds) ≡ ds) × (digits_value 10 ds ≢ 0)
text_of_positive ds h k =
    let first = first_digit ds h in
    let digits : all_ascii_digits ds ≡ true = sym (same_test ds) ∙ all_digits ds h in
    let text = decimal-digits_value own ds digits first.0 (λ e. absurd (first.1 e)) k in
    (text, λ e. first.1 (ap (λ bs. get_or bs 0 0) (sym text ∙ ap decimal e ∙ decimal_digit 0 (omega arith))))

below : (n : ℕ) → is_bigint (neg_ℤ (pos n)) ≡ true → n < 2 ^ 64
below zero h = omega arith
below (suc n) h = grind (arith, nat_tests)

negative_text : (c : ℕ) (cs : List ℕ) (n : ℕ) → c ≡ 45 → decimal n ≡ cs → n ≢ 0 → c ∷ cs ≡ signed_decimal (neg_ℤ (pos n))
negative_text c cs zero e t h = absurd (h refl)
negative_text c cs (suc n) e t h = cc

spelled_by : (c : ℕ) (cs : List ℕ) (b : Bool) → (c == 45) ≡ b → is_spelled (c ∷ cs) ≡ true → is_bigint (spelled (c ∷ cs)) ≡ true → c ∷ cs ≡ signed_decimal (spelled (c ∷ cs))
spelled_by c cs true e s f =
    let positive_cs : is_positive cs ≡ true = rw e at s in
    let bound : is_bigint (neg_ℤ (pos (digits_value 10 cs))) ≡ true = rw e at f in
    let t = text_of_positive cs positive_cs (below (digits_value 10 cs) bound) in
    rw e (negative_text c cs (digits_value 10 cs) (grind (arith, nat_tests)) t.0 t.1)
spelled_by c cs false e s f =
    let positive_ds : is_positive (c ∷ cs) ≡ true = rw e at s in
    let bound : is_bigint (pos (digits_value 10 (c ∷ cs))) ≡ true = rw e at f in
    let t = text_of_positive (c ∷ cs) positive_ds (grind (arith, nat_tests)) in
    rw e (sym t.0)

spelled_text : (t : List ℕ) → is_spelled t ≡ true → is_bigint (spelled t) ≡ true → t ≡ signed_decimal (spelled t)
spelled_text [] s f = cc
spelled_text (c ∷ cs) s f = spelled_by c cs (c == 45) refl s f

zero_text : (t : List ℕ) (z : ℤ) → ◌≡◌ {A = Result ℤ FaultKind} (cond (bytes_eq t (48 ∷ [])) (Ok (pos 0)) (Err BadText)) (Ok z) → t ≡ signed_decimal z
zero_text t z h =
    elim (chosen (bytes_eq t (48 ∷ [])) (Ok (pos 0)) (Err BadText) (Ok z) h) [
      | inl p ↦ (bytes_eq-Decides t (48 ∷ [])).0 p.0 ∙ sym (decimal_digit 0 (omega arith)) ∙ ap signed_decimal (ok_is (pos 0) z p.1)
      | inr p ↦ absurd (err_is BadText z p.1)
    ]

pub one_spelling : (t : List ℕ) (z : ℤ) → bigint_at t ≡ Ok z → t ≡ signed_decimal z
one_spelling t z h =
    elim (chosen (is_spelled t) (in_range (spelled t)) (cond (bytes_eq t (48 ∷ [])) (Ok (pos 0)) (Err BadText)) (Ok z) h) [
      | inl p ↦ let r = ranged (spelled t) z p.1 in spelled_text t p.0 r.1 ∙ ap signed_decimal r.0
      | inr p ↦ zero_text t z p.1
    ]
