use Rattle.std.proofs.Common.{◌≡◌, ◌+◌, ◌*◌, ◌^◌, ◌<◌, ◌≤◌, ◌&&◌, ◌++◌, ◌∙◌, ℕ, Bool, true, false, Option, Some, None, if◌then◌else◌, List, [], ◌∷◌, length, refl, sym, ap, subst, length-append, lit≤, arith}
use Rattle.std.proofs.Math.Nat.{pow-le-pow_right}
use Rattle.std.proofs.lemmas.List.Folds.{list_all-append}
use Rattle.std.specs.Char.{is_ascii_digit}
use Rattle.std.specs.Int.{byte_at, to_le_bytes, w64}
use Rattle.std.specs.List.{list_all}
use Rattle.std.specs.Str.Parse.{digits_value, digits_value_after}
use Rattle.value.proofs.DigitRoom.{behind, within}
use Rattle.value.proofs.digits.many_digits.Goals as goal

-- a word of digits, and the text after it
digits_left : (rest more : List ℕ) (word : ℕ) (t : Bool) → rest ≡ to_le_bytes w64 word ++ more → list_all is_ascii_digit (to_le_bytes w64 word) ≡ t → list_all is_ascii_digit rest ≡ (t && list_all is_ascii_digit more)
digits_left rest more word t is digits = ap (list_all is_ascii_digit) is ∙ list_all-append is_ascii_digit (to_le_bytes w64 word) more ∙ ap (λ b. b && list_all is_ascii_digit more) digits

eight_more : (n : ℕ) (more : List ℕ) (a b c d e f g h : ℕ) →
    digits_value_after 10 (n * 100000000 + digits_value 10 (a ∷ b ∷ c ∷ d ∷ e ∷ f ∷ g ∷ h ∷ [])) more ≡ digits_value_after 10 n (a ∷ b ∷ c ∷ d ∷ e ∷ f ∷ g ∷ h ∷ more)
eight_more n more a b c d e f g h = ap (λ m. digits_value_after 10 m more) (omega arith)

number : (n m : ℕ) (rest more : List ℕ) (word : ℕ) → rest ≡ to_le_bytes w64 word ++ more → m ≡ digits_value 10 (to_le_bytes w64 word) →
    digits_value_after 10 (n * 100000000 + m) more ≡ digits_value_after 10 n rest
number n m rest more word is value =
    ap (λ k. digits_value_after 10 (n * 100000000 + k) more) value ∙ eight_more n more (byte_at 0 word) (byte_at 1 word) (byte_at 2 word) (byte_at 3 word) (byte_at 4 word) (byte_at 5 word) (byte_at 6 word) (byte_at 7 word) ∙ ap (digits_value_after 10 n) (sym is)

room : (n m : ℕ) (rest more : List ℕ) (word : ℕ) → rest ≡ to_le_bytes w64 word ++ more → m < 10 ^ 8 → (n + 1) * 10 ^ length rest ≤ 10 ^ 18 → (n * 100000000 + m + 1) * 10 ^ length more ≤ 10 ^ 18
room n m rest more word is small old =
    let len : length rest ≡ 8 + length more = ap length is ∙ length-append (to_le_bytes w64 word) more in
    behind 8 (length more) n m small (subst (λ k. (n + 1) * 10 ^ k ≤ 10 ^ 18) len old)

fits : (n m : ℕ) (rest more : List ℕ) (word : ℕ) → rest ≡ to_le_bytes w64 word ++ more → m < 10 ^ 8 → (n + 1) * 10 ^ length rest ≤ 10 ^ 18 → n * 100000000 + m < 2 ^ 64
fits n m rest more word is small old = omega (arith, within (n * 100000000 + m) (length more) (room n m rest more word is small old))

none_is : (t : Bool) (n : ℕ) → t ≡ false → ◌≡◌ {A = Option ℕ} None (if t then Some n else None)
none_is t n h = rw h refl

pub loop-word-init : goal.loop-word-init
loop-word-init c =
    let le : 10 ^ length c.args.text.now ≤ 10 ^ 18 = pow-le-pow_right (lit≤ tt) c.requires in
    record { digits = refl; number = refl; room = omega (arith, le) }

pub returns-then-not-are_eight_digits-clause-number : goal.returns-then-not-are_eight_digits-clause-number
returns-then-not-are_eight_digits-clause-number c =
    let none = digits_left _ _ c.in-Some.word false c.in-Some.ensures.some (sym c.are_eight_digits.ensures ∙ c.if-not-are_eight_digits.true) in
    none_is _ _ (sym c.loop-word.invariant.digits ∙ none)

pub overflow_mul-n : goal.overflow_mul-n
overflow_mul-n c =
    let most = fits c.loop-word.n 0 c.loop-word.rest.now _ c.in-Some.word c.in-Some.ensures.some (omega arith) c.loop-word.invariant.room in
    record { fits = omega (arith, most) }

pub overflow_add-n : goal.overflow_add-n
overflow_add-n c = record { fits = fits c.loop-word.n _ c.loop-word.rest.now _ c.in-Some.word c.in-Some.ensures.some c.eight_digits.ensures.small c.loop-word.invariant.room }

pub loop-word-preserved : goal.loop-word-preserved
loop-word-preserved c =
    let word = c.in-Some.word in
    let n = c.loop-word.n in
    let rest = c.loop-word.rest.now in
    let more = c.in-Some.more.now in
    let is = c.in-Some.ensures.some in
    record {
      digits = sym (digits_left rest more word true is (sym c.are_eight_digits.ensures ∙ c.if-not-are_eight_digits.false)) ∙ c.loop-word.invariant.digits;
      number = number n c.eight_digits.result rest more word is c.eight_digits.ensures.number ∙ c.loop-word.invariant.number;
      room = room n c.eight_digits.result rest more word is c.eight_digits.ensures.small c.loop-word.invariant.room;
    }
