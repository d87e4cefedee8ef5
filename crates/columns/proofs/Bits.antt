-- Masks of one more item, and of fewer.
use Rattle.std.proofs.Common.{◌≡◌, ◌≢◌, ℕ, zero, suc, ◌+◌, ◌-◌, ◌*◌, ◌/◌, ◌%◌, ◌^◌, ◌<◌, ◌≤◌, ◌==◌, ◌⊎◌, inl, inr, Bool, true, false, cond, min, List, [], ◌∷◌, ◌++◌, length, get_or, set, take, refl, sym, ap, ◌∙◌, arith, w64, bit_and, bit_or, length-append}
use Rattle.std.specs.Int.{bit_at}
use Rattle.std.proofs.lemmas.Nat.Bits.{bit_at_and, bit_at-zero, bit_at-lt, bit_at_lowest, bit_at_above, bit_at_set_same, bit_at_set_other, bit_at_ones, bit_at_ones_above}
use Rattle.std.proofs.lemmas.List.{get_or_past, get_or_append_left, get_or_push, get_or-set_same, get_or-set_other, get_or-take, length-set, length-take-le}
use Rattle.std.proofs.lemmas.Bool.{cases_lt}
use Rattle.std.proofs.lemmas.Bool.Decides.{eqb_tells}
use Rattle.columns.specs.Bits.{bit_of, bits_from, IsMaskOf}
use Rattle.std.proofs.Math.Pow.{pow-lt}
use mir.Val.{bool_byte}

-- ---- the items of a mask

pub length-bits_from : (ws : List ℕ) (j n : ℕ) → length (bits_from ws j n) ≡ n
unfolding bits_from
length-bits_from ws j zero = refl
length-bits_from ws j (suc n) = ap suc (length-bits_from ws (j + 1) n)

tested : (b : Bool) (n : ℕ) → n ≡ cond b 1 0 → (n == 1) ≡ b
tested true n e = ap (λ m. m == 1) e
tested false n e = ap (λ m. m == 1) e

bits_by : (ws : List ℕ) (bs : List Bool) (j : ℕ) → ((i k : ℕ) → j + i ≡ k → bit_of ws k ≡ cond (get_or bs i false) 1 0) → bits_from ws j (length bs) ≡ bs
unfolding bits_from
bits_by ws [] j each = refl
bits_by ws (b ∷ bs) j each = λ p. tested b (bit_of ws j) (each 0 j (omega arith)) p ∷ bits_by ws bs (j + 1) (λ i k e. each (suc i) k (omega arith)) p

-- the items are read back from their mask
pub read_back : (bs : List Bool) (ws : List ℕ) → IsMaskOf bs ws → bits_from ws 0 (length bs) ≡ bs
read_back bs ws mask = bits_by ws bs 0 (λ i k e. let same : k ≡ i = omega arith in ap (bit_of ws) same ∙ mask.each i)

pub read_back_as : (bs : List Bool) (ws : List ℕ) (n : ℕ) → n ≡ length bs → IsMaskOf bs ws → bits_from ws 0 n ≡ bs
read_back_as bs ws n e mask = ap (bits_from ws 0) e ∙ read_back bs ws mask

-- ---- one more item

other_index : (bs : List Bool) (b : Bool) (i : ℕ) → i ≢ length bs → get_or (bs ++ b ∷ []) i false ≡ get_or bs i false
other_index bs b i ne =
    let case : (i < length bs) ⊎ (length bs ≤ i) = cases_lt i (length bs) in
    elim case [
      | inl within ↦ get_or_append_left bs (b ∷ []) false i within
      | inr past ↦ get_or_past (bs ++ b ∷ []) i false (omega (arith, length-append bs (b ∷ []))) ∙ sym (get_or_past bs i false past)
    ]

byte_bit : (b : Bool) (i : ℕ) → 0 < i → bit_at (bool_byte b) i ≡ 0
byte_bit true i lt = bit_at_above 1 1 i (omega arith) lt
byte_bit false i lt = bit_at-zero i

first_bit : (b : Bool) → bit_at (bool_byte b) 0 ≡ cond b 1 0
first_bit true = bit_at_lowest 1
first_bit false = bit_at_lowest 0

lt_of_ne : (n : ℕ) → n ≢ 0 → 0 < n
lt_of_ne zero ne = absurd (ne refl)
lt_of_ne (suc n) ne = omega arith

same_or : (i n : ℕ) → (i ≡ n) ⊎ (i ≢ n)
same_or i n =
    let told = eqb_tells i n in
    elim told [ inl h ↦ inl h.1 | inr h ↦ inr h.1 ]

module _ (bs : List Bool) (ws : List ℕ) (mask : IsMaskOf bs ws) where
  more : (b : Bool) → length (bs ++ b ∷ []) ≡ length bs + 1
  more b = length-append bs (b ∷ [])

  -- in a new word
  pub mask_new_word : (b : Bool) → length bs % 64 ≡ 0 → IsMaskOf (bs ++ b ∷ []) (ws ++ bool_byte b ∷ [])
  mask_new_word b full = record {
    long = omega (arith, length-append ws (bool_byte b ∷ []), more b, mask.long);
    each = λ i.
        let w = bool_byte b in
        let case : (i / 64 < length ws) ⊎ (length ws ≤ i / 64) = cases_lt (i / 64) (length ws) in
        let again : (i ≡ length bs) ⊎ (i ≢ length bs) = same_or i (length bs) in
        let last : (i / 64 < length ws + 1) ⊎ (length ws + 1 ≤ i / 64) = cases_lt (i / 64) (length ws + 1) in
        elim case [
          | inl within ↦ ap (λ x. bit_at x (i % 64)) (get_or_append_left ws (w ∷ []) 0 (i / 64) within) ∙ mask.each i
              ∙ sym (ap (λ t. cond t 1 0) (other_index bs b i (λ same. omega (arith, mask.long, same))))
          | inr after ↦ elim again [
            | inl here ↦
                let last_word : length ws ≡ i / 64 = omega (arith, mask.long) in
                let low : i % 64 ≡ 0 = omega arith in
                ap (λ x. bit_at x (i % 64)) (get_or_push ws w 0 (i / 64) last_word) ∙ ap (bit_at w) low ∙ first_bit b
                ∙ sym (ap (λ t. cond t 1 0) (get_or_push bs b false i (sym here)))
            | inr there ↦
                let past : get_or (bs ++ b ∷ []) i false ≡ false = other_index bs b i there ∙ get_or_past bs i false (omega (arith, mask.long)) in
                elim last [
                  | inl word ↦
                      let last_word : length ws ≡ i / 64 = omega arith in
                      let above : 0 < i % 64 = lt_of_ne (i % 64) (λ low. there (omega (arith, mask.long))) in
                      ap (λ x. bit_at x (i % 64)) (get_or_push ws w 0 (i / 64) last_word) ∙ byte_bit b (i % 64) above ∙ sym (ap (λ t. cond t 1 0) past)
                  | inr none ↦ ap (λ x. bit_at x (i % 64)) (get_or_past (ws ++ w ∷ []) (i / 64) 0 (omega (arith, length-append ws (w ∷ [])))) ∙ bit_at-zero (i % 64) ∙ sym (ap (λ t. cond t 1 0) past)
                ]
          ]
        ];
  }

  -- in the last word, a bit that is set
  pub mask_set : (n x : ℕ) → n ≡ length bs → n % 64 ≢ 0 → x ≡ get_or ws (n / 64) 0 → IsMaskOf (bs ++ true ∷ []) (set ws (n / 64) (bit_or x (1 * 2 ^ (n % 64) % 2 ^ 64)))
  mask_set n x e part is = record {
    long = length-set ws (n / 64) (bit_or x (1 * 2 ^ (n % 64) % 2 ^ 64)) ∙ omega (arith, more true, mask.long, lt_of_ne (n % 64) part);
    each = λ i.
        let w = bit_or x (1 * 2 ^ (n % 64) % 2 ^ 64) in
        let again : (i ≡ length bs) ⊎ (i ≢ length bs) = same_or i (length bs) in
        let word : (i / 64 ≡ n / 64) ⊎ (i / 64 ≢ n / 64) = same_or (i / 64) (n / 64) in
        let room : n / 64 < length ws = omega (arith, mask.long, lt_of_ne (n % 64) part) in
        elim again [
          | inl here ↦
              let same : i ≡ n = omega arith in
              ap (bit_of (set ws (n / 64) w)) same ∙ ap (λ y. bit_at y (n % 64)) (get_or-set_same ws (n / 64) w 0 room) ∙ bit_at_set_same w64 x (n % 64) (omega arith)
              ∙ sym (ap (λ t. cond t 1 0) (get_or_push bs true false i (sym here)))
          | inr there ↦
              let stays : get_or (bs ++ true ∷ []) i false ≡ get_or bs i false = other_index bs true i there in
              elim word [
                | inl same ↦ ap (λ k. bit_at (get_or (set ws (n / 64) w) k 0) (i % 64)) same ∙ ap (λ y. bit_at y (i % 64)) (get_or-set_same ws (n / 64) w 0 room)
                    ∙ bit_at_set_other w64 x (n % 64) (omega arith) (i % 64) (λ low. there (omega arith)) ∙ ap (λ y. bit_at y (i % 64)) (is ∙ ap (λ k. get_or ws k 0) (sym same))
                    ∙ mask.each i ∙ sym (ap (λ t. cond t 1 0) stays)
                | inr other ↦ ap (λ y. bit_at y (i % 64)) (get_or-set_other ws (n / 64) (i / 64) w 0 other) ∙ mask.each i ∙ sym (ap (λ t. cond t 1 0) stays)
              ]
        ];
  }

  -- in the last word, a bit that is not set
  pub mask_keep : length bs % 64 ≢ 0 → IsMaskOf (bs ++ false ∷ []) ws
  mask_keep part = record {
    long = omega (arith, more false, mask.long, lt_of_ne (length bs % 64) part);
    each = λ i.
        let again : (i ≡ length bs) ⊎ (i ≢ length bs) = same_or i (length bs) in
        elim again [
          | inl here ↦ mask.each i ∙ ap (λ t. cond t 1 0) (get_or_past bs i false (omega arith) ∙ sym (get_or_push bs false false i (sym here)))
          | inr there ↦ mask.each i ∙ sym (ap (λ t. cond t 1 0) (other_index bs false i there))
        ];
  }

  -- ---- fewer items

  low_bits : (x r i : ℕ) → r < 64 → bit_at (bit_and x (1 * 2 ^ r % 2 ^ 64 - 1)) i ≡ min (bit_at x i) (bit_at (2 ^ r - 1) i)
  low_bits x r i lt =
      let small : 1 * 2 ^ r % 2 ^ 64 ≡ 2 ^ r = omega (arith, pow-lt {i = r} {j = 64} lt) in
      ap (λ p. bit_at (bit_and x (p - 1)) i) small ∙ bit_at_and x (2 ^ r - 1) i

  least_one : (n : ℕ) → n < 2 → min n 1 ≡ n
  least_one n lt = omega arith

  -- within a word
  pub mask_cut : (m x : ℕ) → m ≤ length bs → m % 64 ≢ 0 → x ≡ get_or (take (m / 64 + 1) ws) (m / 64) 0
      → IsMaskOf (take m bs) (set (take (m / 64 + 1) ws) (m / 64) (bit_and x (1 * 2 ^ (m % 64) % 2 ^ 64 - 1)))
  mask_cut m x le part is =
      let r = m % 64 in
      let k = m / 64 in
      let front = take (k + 1) ws in
      let w = bit_and x (1 * 2 ^ r % 2 ^ 64 - 1) in
      let room : k + 1 ≤ length ws = omega (arith, mask.long, lt_of_ne r part) in
      let long : length front ≡ k + 1 = length-take-le (k + 1) ws room in
      let at : x ≡ get_or ws k 0 = is ∙ get_or-take (k + 1) ws k 0 (omega arith) in
      record {
        long = length-set front k w ∙ long ∙ omega (arith, length-take-le m bs le, lt_of_ne r part);
        each = λ i.
            let case : (i < m) ⊎ (m ≤ i) = cases_lt i m in
            let word : (i / 64 ≡ k) ⊎ (i / 64 ≢ k) = same_or (i / 64) k in
            elim case [
              | inl within ↦ elim word [
                | inl same ↦ ap (λ j. bit_at (get_or (set front k w) j 0) (i % 64)) same ∙ ap (λ y. bit_at y (i % 64)) (get_or-set_same front k w 0 (omega arith))
                    ∙ low_bits x r (i % 64) (omega arith) ∙ ap (min (bit_at x (i % 64))) (bit_at_ones r (i % 64) (omega arith)) ∙ least_one (bit_at x (i % 64)) (bit_at-lt x (i % 64))
                    ∙ ap (λ y. bit_at y (i % 64)) (at ∙ ap (λ j. get_or ws j 0) (sym same)) ∙ mask.each i ∙ sym (ap (λ t. cond t 1 0) (get_or-take m bs i false within))
                | inr other ↦ ap (λ y. bit_at y (i % 64)) (get_or-set_other front k (i / 64) w 0 other ∙ get_or-take (k + 1) ws (i / 64) 0 (omega arith)) ∙ mask.each i
                    ∙ sym (ap (λ t. cond t 1 0) (get_or-take m bs i false within))
              ]
              | inr past ↦
                  let gone : get_or (take m bs) i false ≡ false = get_or_past (take m bs) i false (omega (arith, length-take-le m bs le)) in
                  elim word [
                    | inl same ↦ ap (λ j. bit_at (get_or (set front k w) j 0) (i % 64)) same ∙ ap (λ y. bit_at y (i % 64)) (get_or-set_same front k w 0 (omega arith))
                        ∙ low_bits x r (i % 64) (omega arith) ∙ ap (min (bit_at x (i % 64))) (bit_at_ones_above r (i % 64) (omega arith)) ∙ omega arith ∙ sym (ap (λ t. cond t 1 0) gone)
                    | inr other ↦ ap (λ y. bit_at y (i % 64)) (get_or_past (set front k w) (i / 64) 0 (omega (arith, length-set front k w))) ∙ bit_at-zero (i % 64) ∙ sym (ap (λ t. cond t 1 0) gone)
                  ]
            ];
      }

-- the items read back after one more, and after the last ones are dropped
pub pushed : (ws ws' : List ℕ) (n : ℕ) (b : Bool) → IsMaskOf (bits_from ws 0 n ++ b ∷ []) ws' → bits_from ws' 0 (n + 1) ≡ bits_from ws 0 n ++ b ∷ []
pushed ws ws' n b mask = read_back_as (bits_from ws 0 n ++ b ∷ []) ws' (n + 1) (omega (arith, length-append (bits_from ws 0 n) (b ∷ []), length-bits_from ws 0 n)) mask

pub cut : (ws ws' : List ℕ) (n m : ℕ) → m ≤ n → IsMaskOf (take m (bits_from ws 0 n)) ws' → bits_from ws' 0 m ≡ take m (bits_from ws 0 n)
cut ws ws' n m le mask = read_back_as (take m (bits_from ws 0 n)) ws' m (omega (arith, length-take-le m (bits_from ws 0 n) (omega (arith, length-bits_from ws 0 n)))) mask

pub nothing : (ws : List ℕ) → ws ≡ [] → IsMaskOf (bits_from ws 0 0) ws
unfolding bits_from
nothing ws e = record { long = ap length e; each = λ i. ap (λ l. bit_of l i) e ∙ bit_at-zero (i % 64) }
