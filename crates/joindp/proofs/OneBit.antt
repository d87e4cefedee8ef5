-- Sets of entries with one entry more, by their bits.
use Rattle.std.proofs.Common.{◌≡◌, ◌∙◌, sym, ap, ℕ, ◌+◌, ◌^◌, ◌<◌, false, ◌||◌, ◌==◌, zero-add}
use Rattle.std.specs.Int.{bit_at}
use Rattle.std.specs.Int.RustNames.{bit_or}
use Rattle.std.proofs.lemmas.Nat.{one_shl}
use Rattle.std.proofs.lemmas.Nat.Bits.{bit_at-zero}
use Rattle.predicates.proofs.Connected.{or_false}
use Rattle.stats.proofs.EntrySets.{bit_set, set_adds}
use Rattle.joindp.specs.Search.{set_of}

-- the bits with one more
pub one_more_bit : (set i k : ℕ) → i < 64 → set_of set i ≡ false → set_of (set + 2 ^ i) k ≡ (i == k) || set_of set k
one_more_bit set i k small new =
    ap (λ m. bit_at m k == 1) (sym (set_adds set i new)) ∙ ap (λ m. bit_at (bit_or set m) k == 1) (sym (one_shl i 64 small)) ∙ bit_set set i k small

-- no entry
pub no_bit : (k : ℕ) → set_of 0 k ≡ false
no_bit k = ap (λ m. m == 1) (bit_at-zero k)

-- one entry
pub lone_bit : (i k : ℕ) → i < 64 → set_of (2 ^ i) k ≡ (i == k)
lone_bit i k small = ap (λ m. set_of m k) (sym (zero-add (2 ^ i))) ∙ one_more_bit 0 i k small (no_bit i) ∙ ap (λ b. (i == k) || b) (no_bit k) ∙ or_false (i == k)
