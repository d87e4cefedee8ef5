-- Words whose bytes are the digits of a number, the first digit in the lowest byte.
use Rattle.std.proofs.Common.{◌≡◌, ◌+◌, ◌*◌, ◌-◌, ◌/◌, ◌%◌, ◌^◌, ◌<◌, ◌≤◌, ◌&&◌, ◌∙◌, ℕ, true, List, [], ◌∷◌, zero, suc, refl, sym, ap, subst, length, map, bit_and, w64, arith}
use Rattle.std.specs.Char.{is_ascii_digit, digit_value}
use Rattle.std.specs.List.{list_all, AllByRecursion}
use Rattle.std.specs.Int.{from_le_bytes, to_le_bytes}
use Rattle.std.proofs.Math.Nat.{add-sub_cancel, mod-eq_of_lt}
use Rattle.std.specs.Int.Bits.{and_block, and_zero_r}
use Rattle.std.specs.Str.Parse.{digits_value_after}
use Rattle.std.proofs.lemmas.Bool.{and_parts}
use Rattle.std.proofs.lemmas.Nat.{and_mask, pow_pos, from_le_bytes-to_le_bytes_8}
use Rattle.std.proofs.lemmas.Nat.Bits.{and_high_mask}
use Rattle.value.proofs.DigitValue.{digit_is, digit_low, digit_high, digit_yes}

-- the number whose fields of k bits are these, the lowest first
abbrev pub fields : ℕ → List ℕ → ℕ
fields k [] = 0
fields k (x ∷ xs) = fields k xs * 2 ^ k + x

-- n in each of so many bytes
abbrev each : ℕ → ℕ → ℕ
each n zero = 0
each n (suc k) = each n k * 256 + n

-- each is at least `low`, and below `high`
abbrev Within : ℕ → ℕ → List ℕ → Type 0
Within low high = AllByRecursion (λ x. (low ≤ x) × (x < high))

-- the high half of a byte
high_half : (b : ℕ) → b < 256 → bit_and b 240 ≡ b / 16 * 16
high_half b h = and_high_mask 8 4 (omega arith) b h

-- bytes from 48 to 63 have the high half of 48
halves_same : (xs : List ℕ) → Within 48 64 xs → bit_and (fields 8 xs) (each 240 (length xs)) ≡ each 48 (length xs)
halves_same [] h = refl
halves_same (x ∷ xs) h =
    let half = high_half x (omega (arith, h.0.1)) in
    let step = and_block 8 (fields 8 xs) (each 240 (length xs)) x 240 (omega (arith, h.0.1)) (omega arith) in
    omega (arith, half, step, h.0.0, h.0.1, halves_same xs h.1)

-- and no others have
halves_only : (xs : List ℕ) → Within 0 256 xs → bit_and (fields 8 xs) (each 240 (length xs)) ≡ each 48 (length xs) → Within 48 64 xs
halves_only [] h e = tt
halves_only (x ∷ xs) h e =
    let half = high_half x h.0.1 in
    let step = and_block 8 (fields 8 xs) (each 240 (length xs)) x 240 (omega (arith, h.0.1)) (omega arith) in
    ((omega (arith, half, step, e, h.0.1), omega (arith, half, step, e, h.0.1)), halves_only xs h.1 (omega (arith, half, step, e, h.0.1)))

at_most : (low high : ℕ) (xs : List ℕ) → Within low high xs → fields 8 xs ≤ each (high - 1) (length xs)
at_most low high [] h = omega arith
at_most low high (x ∷ xs) h = omega (arith, h.0.1, at_most low high xs h.1)

-- n is added to each byte
added : (n : ℕ) (xs : List ℕ) → fields 8 (map (λ x. x + n) xs) ≡ fields 8 xs + each n (length xs)
added n [] = refl
added n (x ∷ xs) = omega (arith, added n xs)

digits_within : (bs : List ℕ) → list_all is_ascii_digit bs ≡ true → Within 48 58 bs
digits_within [] h = tt
digits_within (b ∷ bs) h =
    let parts = and_parts (is_ascii_digit b) (list_all is_ascii_digit bs) h in
    ((digit_low b parts.0, omega (arith, digit_high b parts.0)), digits_within bs parts.1)

within_digits : (bs : List ℕ) → Within 48 58 bs → list_all is_ascii_digit bs ≡ true
within_digits [] h = refl
within_digits (b ∷ bs) h = ap (λ t. t && list_all is_ascii_digit bs) (digit_yes b h.0.0 h.0.1) ∙ within_digits bs h.1

-- k ones in every other field of k bits
abbrev other_fields : ℕ → List ℕ → ℕ
other_fields k [] = 0
other_fields k (x ∷ []) = 2 ^ k - 1
other_fields k (x ∷ y ∷ xs) = (other_fields k xs * 2 ^ k + 0) * 2 ^ k + (2 ^ k - 1)

-- every other field, in its place
abbrev others : ℕ → List ℕ → ℕ
others k [] = 0
others k (x ∷ []) = x
others k (x ∷ y ∷ xs) = (others k xs * 2 ^ k + 0) * 2 ^ k + x

low_only : (k x : ℕ) → x < 2 ^ k → bit_and x (2 ^ k - 1) ≡ x
low_only k x h = and_mask x k ∙ mod-eq_of_lt h

below_pow : (k : ℕ) → 2 ^ k - 1 < 2 ^ k
below_pow k = omega (arith, pow_pos k)

-- a mask of every other field leaves these
others_left : (k : ℕ) (xs : List ℕ) → AllByRecursion (λ x. x < 2 ^ k) xs → bit_and (fields k xs) (other_fields k xs) ≡ others k xs
others_left k [] h = refl
others_left k (x ∷ []) h =
    let alone : fields k (x ∷ []) ≡ x = omega arith in
    ap (λ n. bit_and n (2 ^ k - 1)) alone ∙ low_only k x h.0
others_left k (x ∷ y ∷ xs) h =
    let low = and_block k (fields k xs * 2 ^ k + y) (other_fields k xs * 2 ^ k + 0) x (2 ^ k - 1) h.0 (below_pow k) in
    let high = and_block k (fields k xs) (other_fields k xs) y 0 h.1.0 (pow_pos k) in
    low ∙ ap (λ n. n * 2 ^ k + bit_and x (2 ^ k - 1)) (high ∙ ap (λ n. n * 2 ^ k + bit_and y 0) (others_left k xs h.1.1) ∙ ap (λ n. others k xs * 2 ^ k + n) (and_zero_r y))
    ∙ ap (λ n. (others k xs * 2 ^ k + 0) * 2 ^ k + n) (low_only k x h.0)

word_fields : (a b c d e f g h : ℕ) → from_le_bytes w64 (a ∷ b ∷ c ∷ d ∷ e ∷ f ∷ g ∷ h ∷ []) ≡ fields 8 (a ∷ b ∷ c ∷ d ∷ e ∷ f ∷ g ∷ h ∷ [])
word_fields a b c d e f g h = omega arith

-- digits side by side, joined to numbers of two digits
joined_two : (a b c d e f g h : ℕ) → a < 10 → b < 10 → c < 10 → d < 10 → e < 10 → f < 10 → g < 10 → h < 10 →
    (n : ℕ) → n ≡ fields 8 (a ∷ b ∷ c ∷ d ∷ e ∷ f ∷ g ∷ h ∷ []) →
    bit_and (n * 10 + n / 256) 0x00FF00FF00FF00FF ≡ fields 16 ((a * 10 + b) ∷ (c * 10 + d) ∷ (e * 10 + f) ∷ (g * 10 + h) ∷ [])
joined_two a b c d e f g h ha hb hc hd he hf hg hh n is =
    let sums : List ℕ = (a * 10 + b) ∷ (b * 10 + c) ∷ (c * 10 + d) ∷ (d * 10 + e) ∷ (e * 10 + f) ∷ (f * 10 + g) ∷ (g * 10 + h) ∷ (h * 10) ∷ [] in
    let same : n * 10 + n / 256 ≡ fields 8 sums = omega arith in
    let small : AllByRecursion (λ x. x < 2 ^ 8) sums = (omega arith, (omega arith, (omega arith, (omega arith, (omega arith, (omega arith, (omega arith, (omega arith, tt)))))))) in
    ap (λ m. bit_and m 0x00FF00FF00FF00FF) same ∙ others_left 8 sums small ∙ omega arith

-- numbers of two digits side by side, joined to numbers of four
joined_four : (a b c d : ℕ) → a < 100 → b < 100 → c < 100 → d < 100 →
    (n : ℕ) → n ≡ fields 16 (a ∷ b ∷ c ∷ d ∷ []) →
    bit_and (n * 100 + n / 65536) 0x0000FFFF0000FFFF ≡ fields 32 ((a * 100 + b) ∷ (c * 100 + d) ∷ [])
joined_four a b c d ha hb hc hd n is =
    let sums : List ℕ = (a * 100 + b) ∷ (b * 100 + c) ∷ (c * 100 + d) ∷ (d * 100) ∷ [] in
    let same : n * 100 + n / 65536 ≡ fields 16 sums = omega arith in
    let small : AllByRecursion (λ x. x < 2 ^ 16) sums = (omega arith, (omega arith, (omega arith, (omega arith, tt)))) in
    ap (λ m. bit_and m 0x0000FFFF0000FFFF) same ∙ others_left 16 sums small ∙ omega arith

-- numbers of four digits side by side, joined to one of eight
joined_eight : (a b : ℕ) → a < 10000 → b < 10000 → (n : ℕ) → n ≡ fields 32 (a ∷ b ∷ []) → bit_and n 0xFFFFFFFF * 10000 + n / 4294967296 ≡ a * 10000 + b
joined_eight a b ha hb n is = omega (arith, and_mask n 32)

-- the number of these digits behind those of n
abbrev pub value_after : ℕ → List ℕ → ℕ
value_after n [] = n
value_after n (d ∷ ds) = value_after (n * 10 + d) ds

abbrev pub digits_of : List ℕ → List ℕ
digits_of = map (λ b. b - 48)

pub value_is : (n : ℕ) (bs : List ℕ) → list_all is_ascii_digit bs ≡ true → digits_value_after 10 n bs ≡ value_after n (digits_of bs)
value_is n [] h = refl
value_is n (b ∷ bs) h =
    let parts = and_parts (is_ascii_digit b) (list_all is_ascii_digit bs) h in
    value_is (n * 10 + digit_value b) bs parts.1 ∙ ap (λ d. value_after (n * 10 + d) (digits_of bs)) (digit_is b parts.0)

-- the digits, with 48 in each byte
digits_and : (bs : List ℕ) → Within 48 58 bs → fields 8 (digits_of bs) + each 48 (length bs) ≡ fields 8 bs
digits_and [] h = refl
digits_and (b ∷ bs) h = omega (arith, h.0.0, digits_and bs h.1)

below_ten : (bs : List ℕ) → Within 48 58 bs → Within 0 10 (digits_of bs)
below_ten [] h = tt
below_ten (b ∷ bs) h = ((omega arith, omega (arith, h.0.0, h.0.1)), below_ten bs h.1)

abbrev pub two_of : ℕ → ℕ
two_of n = bit_and (n * 10 + n / 256) 0x00FF00FF00FF00FF

abbrev pub four_of : ℕ → ℕ
four_of n = bit_and (n * 100 + n / 65536) 0x0000FFFF0000FFFF

abbrev pub eight_of : ℕ → ℕ
eight_of n = bit_and n 0xFFFFFFFF * 10000 + n / 4294967296

below_hundred : (a b : ℕ) → a < 10 → b < 10 → a * 10 + b < 100
below_hundred a b ha hb = omega arith

-- eight digits, joined to one number
joined : (a b c d e f g h : ℕ) → Within 0 10 (a ∷ b ∷ c ∷ d ∷ e ∷ f ∷ g ∷ h ∷ []) →
    (n : ℕ) → n ≡ fields 8 (a ∷ b ∷ c ∷ d ∷ e ∷ f ∷ g ∷ h ∷ []) → eight_of (four_of (two_of n)) ≡ value_after 0 (a ∷ b ∷ c ∷ d ∷ e ∷ f ∷ g ∷ h ∷ [])
joined a b c d e f g h (ha, (hb, (hc, (hd, (he, (hf, (hg, (hh, u)))))))) n is =
    let two = joined_two a b c d e f g h ha.1 hb.1 hc.1 hd.1 he.1 hf.1 hg.1 hh.1 n is in
    let four = joined_four (a * 10 + b) (c * 10 + d) (e * 10 + f) (g * 10 + h) (below_hundred a b ha.1 hb.1) (below_hundred c d hc.1 hd.1) (below_hundred e f he.1 hf.1) (below_hundred g h hg.1 hh.1) (two_of n) two in
    joined_eight ((a * 10 + b) * 100 + (c * 10 + d)) ((e * 10 + f) * 100 + (g * 10 + h)) (omega (arith, ha.1, hb.1, hc.1, hd.1)) (omega (arith, he.1, hf.1, hg.1, hh.1)) (four_of (two_of n)) four ∙ omega arith

joined_small : (a b c d e f g h : ℕ) → Within 0 10 (a ∷ b ∷ c ∷ d ∷ e ∷ f ∷ g ∷ h ∷ []) → value_after 0 (a ∷ b ∷ c ∷ d ∷ e ∷ f ∷ g ∷ h ∷ []) < 10 ^ 8
joined_small a b c d e f g h (ha, (hb, (hc, (hd, (he, (hf, (hg, (hh, u)))))))) = omega (arith, ha.1, hb.1, hc.1, hd.1, he.1, hf.1, hg.1, hh.1)

byte_low : (n : ℕ) → (0 ≤ n % 256) × (n % 256 < 256)
byte_low n = (omega arith, omega arith)

bytes_low : (n : ℕ) → Within 0 256 (to_le_bytes w64 n)
bytes_low n = (byte_low _, (byte_low _, (byte_low _, (byte_low _, (byte_low _, (byte_low _, (byte_low _, (byte_low _, tt))))))))

-- a word is the number of its bytes
word_is : (n : ℕ) → n < 2 ^ 64 → n ≡ fields 8 (to_le_bytes w64 n)
word_is n h = sym (from_le_bytes-to_le_bytes_8 n h) ∙ word_fields _ _ _ _ _ _ _ _

-- a word of eight digits, and the number that they spell
pub record IsOfDigits (n : ℕ) (digits : List ℕ) : Type 0 where
  pub word : n ≡ fields 8 digits + 0x3030303030303030
  pub low : fields 8 digits ≤ 0x0909090909090909
  pub number : eight_of (four_of (two_of (n - 0x3030303030303030))) ≡ value_after 0 digits
  pub small : value_after 0 digits < 10 ^ 8

pub of_digits : (n : ℕ) → n < 2 ^ 64 → list_all is_ascii_digit (to_le_bytes w64 n) ≡ true → IsOfDigits n (digits_of (to_le_bytes w64 n))
of_digits n h digits =
    let bs = to_le_bytes w64 n in
    let within = digits_within bs digits in
    let ten = below_ten bs within in
    let is : n ≡ fields 8 (digits_of bs) + 0x3030303030303030 = word_is n h ∙ sym (digits_and bs within) in
    let ones : n - 0x3030303030303030 ≡ fields 8 (digits_of bs) = ap (λ m. m - 0x3030303030303030) is ∙ add-sub_cancel (fields 8 (digits_of bs)) 0x3030303030303030 in
    record {
      word = is;
      low = at_most 0 10 (digits_of bs) ten;
      number = joined _ _ _ _ _ _ _ _ ten (n - 0x3030303030303030) ones;
      small = joined_small _ _ _ _ _ _ _ _ ten;
    }

widened : (bs : List ℕ) → Within 48 58 bs → Within 48 64 bs
widened [] h = tt
widened (b ∷ bs) h = ((h.0.0, omega (arith, h.0.1)), widened bs h.1)

raised : (bs : List ℕ) → Within 48 58 bs → Within 48 64 (map (λ b. b + 6) bs)
raised [] h = tt
raised (b ∷ bs) h = ((omega (arith, h.0.0), omega (arith, h.0.1)), raised bs h.1)

raised_low : (bs : List ℕ) → Within 48 64 bs → Within 0 256 (map (λ b. b + 6) bs)
raised_low [] h = tt
raised_low (b ∷ bs) h = ((omega arith, omega (arith, h.0.1)), raised_low bs h.1)

lowered : (bs : List ℕ) → Within 48 64 bs → Within 48 64 (map (λ b. b + 6) bs) → Within 48 58 bs
lowered [] h r = tt
lowered (b ∷ bs) h r = ((h.0.0, omega (arith, r.0.1)), lowered bs h.1 r.1)

raised_is : (n : ℕ) → n < 2 ^ 64 → n + 0x0606060606060606 ≡ fields 8 (map (λ b. b + 6) (to_le_bytes w64 n))
raised_is n h = ap (λ m. m + 0x0606060606060606) (word_is n h) ∙ sym (added 6 (to_le_bytes w64 n))

-- bytes that pass the first test
highs_within : (n : ℕ) → n < 2 ^ 64 → bit_and n 0xF0F0F0F0F0F0F0F0 ≡ 0x3030303030303030 → Within 48 64 (to_le_bytes w64 n)
highs_within n h e = halves_only (to_le_bytes w64 n) (bytes_low n) (ap (λ m. bit_and m 0xF0F0F0F0F0F0F0F0) (sym (word_is n h)) ∙ e)

pub highs_low : (n : ℕ) → n < 2 ^ 64 → bit_and n 0xF0F0F0F0F0F0F0F0 ≡ 0x3030303030303030 → n ≤ 0x3F3F3F3F3F3F3F3F
highs_low n h e = subst (λ m. m ≤ 0x3F3F3F3F3F3F3F3F) (sym (word_is n h)) (at_most 48 64 (to_le_bytes w64 n) (highs_within n h e))

-- digits pass both tests, and nothing else does
pub first_passed : (n : ℕ) → n < 2 ^ 64 → list_all is_ascii_digit (to_le_bytes w64 n) ≡ true → bit_and n 0xF0F0F0F0F0F0F0F0 ≡ 0x3030303030303030
first_passed n h digits =
    let bs = to_le_bytes w64 n in
    ap (λ m. bit_and m 0xF0F0F0F0F0F0F0F0) (word_is n h) ∙ halves_same bs (widened bs (digits_within bs digits))

pub second_passed : (n : ℕ) → n < 2 ^ 64 → list_all is_ascii_digit (to_le_bytes w64 n) ≡ true → bit_and (n + 0x0606060606060606) 0xF0F0F0F0F0F0F0F0 ≡ 0x3030303030303030
second_passed n h digits =
    let bs = to_le_bytes w64 n in
    ap (λ m. bit_and m 0xF0F0F0F0F0F0F0F0) (raised_is n h) ∙ halves_same (map (λ b. b + 6) bs) (raised bs (digits_within bs digits))

pub both_passed : (n : ℕ) → n < 2 ^ 64 → bit_and n 0xF0F0F0F0F0F0F0F0 ≡ 0x3030303030303030 → bit_and (n + 0x0606060606060606) 0xF0F0F0F0F0F0F0F0 ≡ 0x3030303030303030 → list_all is_ascii_digit (to_le_bytes w64 n) ≡ true
both_passed n h e f =
    let bs = to_le_bytes w64 n in
    let high = highs_within n h e in
    let more = halves_only (map (λ b. b + 6) bs) (raised_low bs high) (ap (λ m. bit_and m 0xF0F0F0F0F0F0F0F0) (sym (raised_is n h)) ∙ f) in
    within_digits bs (lowered bs high more)
