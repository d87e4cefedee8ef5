-- The bytes that a writer takes, and the count of its failures.
use Rattle.std.specs.Prelude.{ℕ, ◌≡◌, ◌≢◌, ◌+◌, ◌%◌, ◌^◌, ◌<◌, ◌≤◌, List, [], length, take, Option, Result, Ok, Err}
use Rattle.std.specs.Io.KnownBytes.{Appends, Keeps}

-- the count after one more failure; it starts again at 0 after 2^64 of them
abbrev pub one_more : ℕ → ℕ
one_more n = (n + 1) % 2 ^ 64

-- one write of a part: the writer took the first n bytes, and at least one if there is one, or it took none and failed
abbrev pub Takes : {E : Type 0} → Option (List ℕ) → Option (List ℕ) → ℕ → ℕ → List ℕ → Result ℕ E → Type 0
Takes old new failures after part (Ok n) = (n ≤ length part) × (part ≢ [] → 0 < n) × Appends old new (take n part) × (after ≡ failures)
Takes old new failures after part (Err e) = Keeps old new × (after ≡ one_more failures)

-- a beginning of the text went out, and not all of it
abbrev pub Begins : Option (List ℕ) → Option (List ℕ) → List ℕ → Type 0
Begins old new text = (n : ℕ) × (n < length text) × Appends old new (take n text)

-- a text was written: all of it went out and nothing failed, or a beginning of it went out and one write failed
abbrev pub GoesOut : {T E : Type 0} → Option (List ℕ) → Option (List ℕ) → ℕ → ℕ → List ℕ → Result T E → Type 0
GoesOut old new failures after text (Ok u) = Appends old new text × (after ≡ failures)
GoesOut old new failures after text (Err e) = (after ≡ one_more failures) × Begins old new text
