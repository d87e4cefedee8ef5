use Rattle.std.proofs.Common.{◌≡◌, ◌+◌, ◌*◌, ◌^◌, ◌<◌, ◌≤◌, ◌&&◌, ◌-◌, ◌%◌, ℕ, true, List, ◌∷◌, length, drop, get_or, sym, ap, subst, ◌∙◌, add-one, drop-cons, arith}
use Rattle.std.specs.Char.{is_ascii_digit, digit_value}
use Rattle.std.specs.List.{list_all}
use Rattle.std.specs.Str.Parse.{digits_value_after}
use Rattle.value.proofs.DigitRoom.{behind, within}
use Rattle.value.proofs.DigitValue.{digit_is, digit_yes}
use Rattle.value.proofs.digits.digits_after.Goals as goal

-- the bytes that are left, the next one first
left : (text : List ℕ) (i : ℕ) → i < length text → drop i text ≡ get_or text i 0 ∷ drop (i + 1) text
left text i h = drop-cons text i 0 h ∙ ap (λ j. get_or text i 0 ∷ drop j text) (sym (add-one i))

room : (text : List ℕ) (i n d : ℕ) → i < length text → d < 10 → (n + 1) * 10 ^ length (drop i text) ≤ 10 ^ 18 → (n * 10 + d + 1) * 10 ^ length (drop (i + 1) text) ≤ 10 ^ 18
room text i n d h low old =
    let k = length (drop (i + 1) text) in
    let more : length (drop i text) ≡ 1 + k = omega (arith, ap length (left text i h)) in
    behind 1 k n d low (subst (λ m. (n + 1) * 10 ^ m ≤ 10 ^ 18) more old)

fits : (text : List ℕ) (i n d : ℕ) → i < length text → d < 10 → (n + 1) * 10 ^ length (drop i text) ≤ 10 ^ 18 → n * 10 + d < 2 ^ 64
fits text i n d h low old = omega (arith, within (n * 10 + d) (length (drop (i + 1) text)) (room text i n d h low old))

-- a byte less 48, as a word
abbrev less : ℕ → ℕ
less b = (b + 18446744073709551568) % 18446744073709551616

from_low : (b : ℕ) → b < 256 → less b ≤ 9 → 48 ≤ b
from_low b h low = omega arith

to_high : (b : ℕ) → b < 256 → less b ≤ 9 → b < 58
to_high b h low = omega arith

less_is : (b : ℕ) → b < 256 → 48 ≤ b → less b ≡ b - 48
less_is b h low = omega arith

record IsDigit (b d : ℕ) : Type 0 where
  pub digit : is_ascii_digit b ≡ true
  pub value : d ≡ digit_value b

is_digit : (b x : ℕ) → x ≡ b → b < 256 → less x ≤ 9 → IsDigit b (less x)
is_digit b x e h low =
    let byte : x < 256 = omega arith in
    let from : 48 ≤ x = from_low x byte low in
    let digit = digit_yes b (omega arith) (omega (arith, to_high x byte low)) in
    record { digit = digit; value = less_is x byte from ∙ ap (λ k. k - 48) e ∙ sym (digit_is b digit) }

pub overflow_mul-n : goal.overflow_mul-n
overflow_mul-n c =
    let most = fits c.args.text.now c.loop-byte.byte-index c.loop-byte.n 0 c.loop-byte-test.true (omega arith) c.loop-byte.invariant.room in
    record { fits = omega (arith, most) }

pub overflow_add-n : goal.overflow_add-n
overflow_add-n c =
    let low : less c.from-digit.result < 10 = omega (arith, c.if-digit-gt9.false) in
    record { fits = fits c.args.text.now c.loop-byte.byte-index c.loop-byte.n (less c.from-digit.result) c.loop-byte-test.true low c.loop-byte.invariant.room }

pub loop-byte-preserved : goal.loop-byte-preserved
loop-byte-preserved c =
    let text = c.args.text.now in
    let i = c.loop-byte.byte-index in
    let n = c.loop-byte.n in
    let b = get_or text i 0 in
    let d = less c.from-digit.result in
    let rest = drop (i + 1) text in
    let low : d < 10 = omega (arith, c.if-digit-gt9.false) in
    let byte : b < 256 = omega (arith, c.type_inv.text i) in
    let digit = is_digit b c.from-digit.result c.from-digit.ensures byte c.if-digit-gt9.false in
    let is = left text i c.loop-byte-test.true in
    record {
      digits = sym (ap (λ t. t && list_all is_ascii_digit rest) digit.digit) ∙ sym (ap (list_all is_ascii_digit) is) ∙ c.loop-byte.invariant.digits;
      number = ap (λ k. digits_value_after 10 (n * 10 + k) rest) digit.value ∙ sym (ap (digits_value_after 10 n) is) ∙ c.loop-byte.invariant.number;
      room = room text i n d c.loop-byte-test.true low c.loop-byte.invariant.room;
    }
