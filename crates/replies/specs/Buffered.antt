-- Bytes that go to a writer through a buffer.
use Rattle.std.specs.Prelude.{ℕ, ◌≡◌, List, ◌++◌, Option, Result, Ok, Err}
use Rattle.std.specs.Io.KnownBytes.{Appends}
use Rattle.output.specs.Taken.{Begins, one_more}

-- no write failed: of what the buffer had and the bytes put after it, the first were taken, and the buffer has the others
pub record Goes {W : Type 0} (taken : W → Option (List ℕ)) (failures : W → ℕ) (old new : W) (had has bytes : List ℕ) : Type 0 where
  pub first : List ℕ
  pub appended : Appends (taken old) (taken new) first
  pub parts : first ++ has ≡ had ++ bytes
  pub fine : failures new ≡ failures old

-- a write failed: a beginning of these bytes was taken, and not all of them
pub record Stops {W : Type 0} (taken : W → Option (List ℕ)) (failures : W → ℕ) (old new : W) (had bytes : List ℕ) : Type 0 where
  pub beginning : Begins (taken old) (taken new) (had ++ bytes)
  pub failed : failures new ≡ one_more (failures old)

-- bytes are put after what a buffer had
abbrev pub Puts : {W T E : Type 0} → (W → Option (List ℕ)) → (W → ℕ) → W → W → List ℕ → List ℕ → List ℕ → Result T E → Type 0
Puts taken failures old new had has bytes (Ok u) = Goes taken failures old new had has bytes
Puts taken failures old new had has bytes (Err e) = Stops taken failures old new had bytes
