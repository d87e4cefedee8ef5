-- Truth values in masks of 64-bit words, an item to a bit.
use Rattle.std.specs.Prelude.{ℕ, zero, suc, ◌+◌, ◌/◌, ◌%◌, ◌==◌, ◌≡◌, Bool, false, if◌then◌else◌, List, [], ◌∷◌, length, get_or}
use Rattle.std.specs.Int.{bit_at}

-- bit i of a mask, counted over all its words from the lowest bit of the first
abbrev pub bit_of : List ℕ → ℕ → ℕ
bit_of words i = bit_at (get_or words (i / 64) 0) (i % 64)

-- the number of words of the mask of n items
abbrev pub words_for : ℕ → ℕ
words_for n = (n + 63) / 64

-- bit i of the mask is set where item i is true, and no bit past the items is set
pub record IsMaskOf (items : List Bool) (words : List ℕ) : Type 0 where
  pub long : length words ≡ words_for (length items)
  pub each : (i : ℕ) → bit_of words i ≡ (if get_or items i false then 1 else 0)

-- the items that the next n bits of a mask stand for, from bit i on
unfoldable pub bits_from : List ℕ → ℕ → ℕ → List Bool
bits_from words i zero = []
bits_from words i (suc n) = (bit_of words i == 1) ∷ bits_from words (i + 1) n
