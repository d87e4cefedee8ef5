-- Sets of entries as numbers, by their bits.
use Rattle.std.proofs.Common.{◌≡◌, ◌≢◌, ℕ, suc, ◌+◌, ◌-◌, ◌*◌, ◌%◌, ◌^◌, ◌<◌, ◌==◌, ◌||◌, true, false, bit_or, nat_lt, eqb, sym, ap, ◌∙◌, subst, ◌⊎◌, inl, inr, w64, arith}
use Rattle.std.specs.Int.{bit_at}
use Rattle.std.proofs.lemmas.Nat.{or_disjoint, or_lt, pow_below}
use Rattle.std.proofs.lemmas.Nat.Bits.{and_pow, bit_at-lt, bit_at_ones, bit_at_ones_above, bit_at_set_other, bit_at_set_same, same_from_bits_below}
use Rattle.std.proofs.lemmas.Bool.Decides.{eqb_tells, leb_tells, nat_tests}

-- a bit that is set is 1
bit_is_set : (bits i : ℕ) → (bit_at bits i == 1) ≡ true → bit_at bits i ≡ 1
bit_is_set bits i set = grind (arith, nat_tests)

-- a number of n bits with each of them set is the greatest
pub all_bits_set : (n bits : ℕ) → bits < 2 ^ n → ((i : ℕ) → i < n → (bit_at bits i == 1) ≡ true) → bits ≡ 2 ^ n - 1
all_bits_set n bits below set = same_from_bits_below n bits (2 ^ n - 1) below (omega arith) (λ i l. bit_is_set bits i (set i l) ∙ sym (bit_at_ones n i l))

-- a bit that is not set is 0
bit_not_set : (bits i : ℕ) → (bit_at bits i == 1) ≡ false → bit_at bits i ≡ 0
bit_not_set bits i unset = let b = bit_at-lt bits i in grind (arith, nat_tests)

-- to set a bit that is not set adds it
pub set_adds : (bits i : ℕ) → (bit_at bits i == 1) ≡ false → bit_or bits (2 ^ i) ≡ bits + 2 ^ i
set_adds bits i unset = or_disjoint bits (2 ^ i) (and_pow bits i ∙ ap (λ b. b * 2 ^ i) (bit_not_set bits i unset) ∙ omega arith)

-- to add a bit of n that is not set stays within n bits
pub set_within : (n bits i : ℕ) → bits < 2 ^ n → i < n → (bit_at bits i == 1) ≡ false → bits + 2 ^ i < 2 ^ n
set_within n bits i below within unset = subst (λ b. b < 2 ^ n) (set_adds bits i unset) (or_lt n bits (2 ^ i) below (pow_below i n within))

-- the bits of the greatest number of n bits are the first n
pub bits_of_all : (n i : ℕ) → (bit_at (2 ^ n - 1) i == 1) ≡ nat_lt i n
bits_of_all n i = go (leb_tells (suc i) n)
  where
    go : ((nat_lt i n ≡ true) × (i < n)) ⊎ ((nat_lt i n ≡ false) × (n < suc i)) → (bit_at (2 ^ n - 1) i == 1) ≡ nat_lt i n
    go (inl w) = ap (λ b. b == 1) (bit_at_ones n i w.1) ∙ sym w.0
    go (inr w) = ap (λ b. b == 1) (bit_at_ones_above n i (omega arith)) ∙ sym w.0

-- the bits of a number with one more set
pub bit_set : (bits entry i : ℕ) → entry < 64 → (bit_at (bit_or bits (1 * 2 ^ entry % 2 ^ 64)) i == 1) ≡ ((entry == i) || (bit_at bits i == 1))
bit_set bits entry i within = go (eqb_tells entry i)
  where
    go : ((eqb entry i ≡ true) × (entry ≡ i)) ⊎ ((eqb entry i ≡ false) × (entry ≢ i)) → (bit_at (bit_or bits (1 * 2 ^ entry % 2 ^ 64)) i == 1) ≡ ((entry == i) || (bit_at bits i == 1))
    go (inl same) = ap (λ j. bit_at (bit_or bits (1 * 2 ^ entry % 2 ^ 64)) j == 1) (sym same.1) ∙ ap (λ b. b == 1) (bit_at_set_same w64 bits entry within) ∙ ap (λ b. b || (bit_at bits i == 1)) (sym same.0)
    go (inr other) = ap (λ b. b == 1) (bit_at_set_other w64 bits entry within i (λ e. other.1 (sym e))) ∙ ap (λ b. b || (bit_at bits i == 1)) (sym other.0)
