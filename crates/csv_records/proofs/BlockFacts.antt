-- Records whose fields are not quoted, a block of 64 bytes at a time.
use Rattle.std.proofs.Common.{◌≡◌, ◌≢◌, ℕ, zero, suc, ◌+◌, ◌-◌, ◌/◌, ◌%◌, ◌^◌, ◌<◌, ◌≤◌, ◌==◌, ◌||◌, ◌⊎◌, inl, inr, Bool, true, false, cond, if◌then◌else◌, List, length, map, replicate, get_or, refl, sym, ap, subst, ◌∙◌, arith, bit_and, bit_or, eqb, w8, w64}
use Rattle.std.specs.Int.{bit_at, trailing_zeros}
use Rattle.std.specs.Simd.Lanes.{chunk, mask_l, sel_l, top, zip2}
use Rattle.std.proofs.lemmas.Bool.{cases_lt}
use Rattle.std.proofs.lemmas.List.{get_or-map}
use Rattle.std.proofs.lemmas.Nat.Bits.{bit_at_and, bit_at_lowest, bit_at-lt, bit_at-suc, bit_at-trailing_zeros, bit_at-zero}
use Rattle.std.proofs.lemmas.Simd.{bit_mask_l, bitmask_splat, get_or-chunk, get_or-replicate, get_or-sel_l, get_or-zip2, length-sel_l, length-zip2, tops_compared}
use Rattle.csv_records.specs.Scanned.{Scanned, is_special}
use Rattle.csv_records.proofs.PlainFacts.{bytes_joined}

-- ---- the bits of a block

-- a block has 255 in each lane that passes a test, and 0 in the others
pub record AreLanes (lanes : List ℕ) (test : ℕ → Bool) : Type 0 where
  pub long : length lanes ≡ 64
  pub each : (k : ℕ) → k < 64 → get_or lanes k 0 ≡ (if test k then 255 else 0)

pub lanes_compared : (block : List ℕ) (byte : ℕ) → length block ≡ 64
    → AreLanes (sel_l (map (top 7) (zip2 (λ a b. cond (eqb a b) (2 ^ 8 - 1) 0) block (replicate 64 byte))) (replicate 64 255) (replicate 64 0)) (λ k. get_or block k 0 == byte)
lanes_compared block byte full = subst (λ ms. AreLanes (sel_l ms (replicate 64 255) (replicate 64 0)) (λ k. get_or block k 0 == byte)) (sym (tops_compared w8 eqb block (replicate 64 byte))) (record {
  long = length-sel_l _ (replicate 64 255) (replicate 64 0) long long ∙ long;
  each = λ k l.
      get_or-sel_l _ (replicate 64 255) (replicate 64 0) k 0 (omega (arith, long, l)) l l
      ∙ (λ i. cond ((get_or-zip2 eqb block (replicate 64 byte) k 0 0 false (omega (arith, full, l)) l ∙ ap (eqb (get_or block k 0)) (get_or-replicate 64 k byte 0 l)) i) (get_or-replicate 64 k 255 0 l i) (get_or-replicate 64 k 0 0 l i));
}) where
  long : length (zip2 eqb block (replicate 64 byte)) ≡ 64
  long = length-zip2 eqb block (replicate 64 byte) full ∙ full

either : (a b : Bool) → bit_or (if a then 255 else 0) (if b then 255 else 0) ≡ (if a || b then 255 else 0)
either true true = refl
either true false = refl
either false true = refl
either false false = refl

-- two blocks joined by "or"
lanes_joined : (xs ys : List ℕ) (p q : ℕ → Bool) → AreLanes xs p → AreLanes ys q → AreLanes (zip2 bit_or xs ys) (λ k. p k || q k)
lanes_joined xs ys p q a b = record {
  long = length-zip2 bit_or xs ys (a.long ∙ sym b.long) ∙ a.long;
  each = λ k l. get_or-zip2 bit_or xs ys k 0 0 0 (omega (arith, a.long, l)) (omega (arith, b.long, l)) ∙ (λ i. bit_or (a.each k l i) (b.each k l i)) ∙ either (p k) (q k);
}

is_full : (b : Bool) → ((if b then 255 else 0) == 255) ≡ b
is_full true = refl
is_full false = refl

-- the bits of the lanes
bits_of_lanes : (lanes : List ℕ) (test : ℕ → Bool) → AreLanes lanes test → (k : ℕ) → k < 64
    → bit_at (mask_l (map (top 7) (zip2 (λ a b. cond (eqb a b) (2 ^ 8 - 1) 0) lanes (replicate 64 255))) % 2 ^ 64) k ≡ (if test k then 1 else 0)
bits_of_lanes lanes test are k lt =
    ap (λ m. bit_at m k) (bitmask_splat w8 eqb lanes 64 255 are.long (omega arith))
    ∙ bit_mask_l (map (λ x. eqb x 255) lanes) k
    ∙ ap (λ b. cond b 1 0) (get_or-map (λ x. eqb x 255) lanes k 0 false (omega (arith, lt, are.long)) ∙ ap (λ x. eqb x 255) (are.each k lt) ∙ is_full (test k))

regrouped : (a b c : Bool) → ((a || b) || c) ≡ (a || (b || c))
regrouped true b c = refl
regrouped false b c = refl

module _ (bytes : List ℕ) (at : ℕ) (room : at + 64 ≤ length bytes) where
  abbrev block : List ℕ
  block = chunk at 64 bytes

  abbrev AreOf : List ℕ → ℕ → Type 0
  AreOf lanes byte = AreLanes lanes (λ k. get_or block k 0 == byte)

  pub special_bit : (commas quotes returns feeds : List ℕ) → AreOf commas 44 → AreOf quotes 34 → AreOf returns 13 → AreOf feeds 10 → (k : ℕ) → k < 64
      → bit_at (mask_l (map (top 7) (zip2 (λ a b. cond (eqb a b) (2 ^ 8 - 1) 0) (zip2 bit_or (zip2 bit_or (zip2 bit_or commas quotes) returns) feeds) (replicate 64 255))) % 2 ^ 64) k ≡ (if is_special (get_or bytes (at + k) 0) then 1 else 0)
  special_bit commas quotes returns feeds a b c d k lt =
      let two = lanes_joined commas quotes (λ k. get_or block k 0 == 44) (λ k. get_or block k 0 == 34) a b in
      let three = lanes_joined _ returns (λ k. (get_or block k 0 == 44) || (get_or block k 0 == 34)) (λ k. get_or block k 0 == 13) two c in
      let all = lanes_joined _ feeds (λ k. ((get_or block k 0 == 44) || (get_or block k 0 == 34)) || (get_or block k 0 == 13)) (λ k. get_or block k 0 == 10) three d in
      bits_of_lanes _ (λ k. (((get_or block k 0 == 44) || (get_or block k 0 == 34)) || (get_or block k 0 == 13)) || (get_or block k 0 == 10)) all k lt
      ∙ ap (λ b. cond b 1 0) (regrouped ((get_or block k 0 == 44) || (get_or block k 0 == 34)) (get_or block k 0 == 13) (get_or block k 0 == 10))
      ∙ ap (λ byte. if is_special byte then 1 else 0) (get_or-chunk at 64 bytes k 0 lt)

-- ---- the scan of a block

-- the bytes before one of a block, or before its end, were gone over; a bit that is left is not before it, and from it on each byte that is
-- special has its bit
pub record ScannedTo (bytes ends : List ℕ) (start at bits : ℕ) : Type 0 where
  pub next : ℕ
  pub low : at ≤ next
  pub high : next ≤ at + 64
  pub scanned : Scanned bytes ends start next
  pub behind : (k : ℕ) → bit_at bits k ≡ 1 → next ≤ at + k
  pub clear : (k : ℕ) → k < 64 → next ≤ at + k → bit_at bits k ≡ 0 → is_special (get_or bytes (at + k) 0) ≡ false

not_special : (b : Bool) (n : ℕ) → n ≡ (if b then 1 else 0) → n ≡ 0 → b ≡ false
not_special true n is none = absurd (omega (arith, is, none))
not_special false n is none = refl

pub block_begins : (bytes ends : List ℕ) (start at bits : ℕ) → Scanned bytes ends start at → ((k : ℕ) → k < 64 → bit_at bits k ≡ if is_special (get_or bytes (at + k) 0) then 1 else 0) → ScannedTo bytes ends start at bits
block_begins bytes ends start at bits so each = record {
  next = at;
  low = omega arith;
  high = omega arith;
  scanned = so;
  behind = λ k set. omega arith;
  clear = λ k lt from none. not_special _ (bit_at bits k) (each k lt) none;
}

-- the number before one has the same bits above the lowest bit of it, and not that bit
bits_before : (low n : ℕ) → bit_at n low ≡ 1 → ((i : ℕ) → i < low → bit_at n i ≡ 0) → (bit_at (n - 1) low ≡ 0) × ((i : ℕ) → low < i → bit_at (n - 1) i ≡ bit_at n i)
bits_before zero n set none = (bit_at_lowest (n - 1) ∙ even, above) where
  even : (n - 1) % 2 ≡ 0
  even = omega (arith, set, bit_at_lowest n)

  above : (i : ℕ) → 0 < i → bit_at (n - 1) i ≡ bit_at n i
  above zero lt = absurd (omega (arith, lt))
  above (suc i) lt =
      let half : (n - 1) / 2 ≡ n / 2 = omega (arith, set, bit_at_lowest n) in
      bit_at-suc (n - 1) i ∙ ap (λ m. bit_at m i) half ∙ sym (bit_at-suc n i)
bits_before (suc low) n set none =
    let rest = bits_before low (n / 2) (sym (bit_at-suc n low) ∙ set) (λ i lt. sym (bit_at-suc n i) ∙ none (suc i) (omega (arith, lt))) in
    (bit_at-suc (n - 1) low ∙ ap (λ m. bit_at m low) half ∙ rest.0, above rest.1)
  where
    half : (n - 1) / 2 ≡ n / 2 - 1
    half = omega (arith, none 0 (omega arith), bit_at_lowest n)

    above : ((i : ℕ) → low < i → bit_at (n / 2 - 1) i ≡ bit_at (n / 2) i) → (i : ℕ) → suc low < i → bit_at (n - 1) i ≡ bit_at n i
    above same zero lt = absurd (omega (arith, lt))
    above same (suc i) lt = bit_at-suc (n - 1) i ∙ ap (λ m. bit_at m i) half ∙ same i (omega (arith, lt)) ∙ sym (bit_at-suc n i)

module _ (bytes ends : List ℕ) (start at bits : ℕ) (room : at + 64 ≤ length bytes) (s : ScannedTo bytes ends start at bits) where
  -- as far as no bit is set
  up_to : (to : ℕ) → s.next ≤ to → to ≤ at + 64 → ((k : ℕ) → k < 64 → at + k < to → bit_at bits k ≡ 0) → Scanned bytes ends start to
  up_to to le within none =
      let same : s.next + (to - s.next) ≡ to = omega (arith, le) in
      subst (Scanned bytes ends start) same (bytes_joined (to - s.next) bytes ends start s.next s.scanned (omega (arith, le, within, room)) plain)
    where
      plain : (k : ℕ) → s.next ≤ k → k < s.next + (to - s.next) → is_special (get_or bytes k 0) ≡ false
      plain k from before =
          let here : at + (k - at) ≡ k = omega (arith, s.low, from) in
          let short : k - at < 64 = omega (arith, s.low, from, before, le, within) in
          subst (λ n. is_special (get_or bytes n 0) ≡ false) here
          (s.clear (k - at) short (omega (arith, here, from)) (none (k - at) short (omega (arith, here, before, le))))

  pub to_end : bits ≡ 0 → Scanned bytes ends start (at + 64)
  to_end none = up_to (at + 64) s.high (omega arith) (λ k lt before. ap (λ m. bit_at m k) none ∙ bit_at-zero k)

  module _ (some : bits ≢ 0) (fits : bits < 2 ^ 64) where
    abbrev lowest : ℕ
    lowest = trailing_zeros w64 bits

    is_lowest : (lowest < 64) × (bit_at bits lowest ≡ 1) × ((i : ℕ) → i < lowest → bit_at bits i ≡ 0)
    is_lowest = bit_at-trailing_zeros w64 bits (omega (arith, some)) fits

    pub in_block : at + lowest < length bytes
    in_block = omega (arith, is_lowest.0, room)

    pub to_lowest : Scanned bytes ends start (at + lowest)
    to_lowest = up_to (at + lowest) (s.behind lowest is_lowest.1) (omega (arith, is_lowest.0)) (λ k lt before. is_lowest.2 k (omega (arith, before)))

    abbrev rest : ℕ
    rest = bit_and bits (bits - 1)

    before : (bit_at (bits - 1) lowest ≡ 0) × ((i : ℕ) → lowest < i → bit_at (bits - 1) i ≡ bit_at bits i)
    before = bits_before lowest bits is_lowest.1 is_lowest.2

    after_lowest : (k : ℕ) → bit_at rest k ≡ 1 → lowest < k
    after_lowest k set = by_place (cases_lt lowest k) where
      was_set : bit_at bits k ≡ 1
      was_set = omega (arith, set, bit_at_and bits (bits - 1) k, bit_at-lt bits k)

      by_place : (lowest < k) ⊎ (k ≤ lowest) → lowest < k
      by_place (inl after) = after
      by_place (inr le) = by_test (cases_lt k lowest) where
        by_test : (k < lowest) ⊎ (lowest ≤ k) → lowest < k
        by_test (inl lt) = absurd (omega (arith, was_set, is_lowest.2 k lt))
        by_test (inr ge) =
            let same : k ≡ lowest = omega (arith, le, ge) in
            absurd (omega (arith, set, ap (bit_at rest) same, bit_at_and bits (bits - 1) lowest, before.0))

    pub past_lowest : (new : List ℕ) (field : ℕ) → Scanned bytes new field (at + lowest + 1) → ScannedTo bytes new field at rest
    past_lowest new field so = record {
      next = at + lowest + 1;
      low = omega arith;
      high = omega (arith, is_lowest.0);
      scanned = so;
      behind = λ k set. omega (arith, after_lowest k set);
      clear = λ k lt from none. s.clear k lt (omega (arith, from, s.behind lowest is_lowest.1)) (omega (arith, none, bit_at_and bits (bits - 1) k, before.1 k (omega (arith, from))));
    }
