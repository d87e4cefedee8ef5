-- The record that some bytes begin with.
use Rattle.std.specs.Prelude.{ℕ, ◌≡◌, ◌+◌, ◌<◌, ◌++◌, ◌==◌, ◌||◌, Bool, true, false, List, [], length, drop, Option, Some, None, ⊤}
use Rattle.csv.specs.Machine.{next_record}
use Rattle.csv.specs.Reading.{default_config}
use Rattle.csv.specs.declared.parser.State.{State}
use Rattle.csv.specs.declared.parser.State.TheVariants as st
use Rattle.csv_records.specs.Fields.{EndsWithin, fields_from}
use Rattle.csv_records.specs.Machine.{settled}

-- CR and LF end lines
abbrev pub ends_line : ℕ → Bool
ends_line byte = (byte == 13) || (byte == 10)

-- the bytes begin with a record of these fields, and others are left after it
abbrev pub StartsWithRecord : List ℕ → List (List ℕ) → List ℕ → Type 0
StartsWithRecord xs fields ys = (s : State) × (settled s ≡ st.StartRecord) × (next_record default_config st.StartRecord [] [] xs ≡ Some (fields, s, ys))

-- the next record of some bytes is that of others
abbrev pub SameNext : List ℕ → List ℕ → Type 0
SameNext xs ys = next_record default_config st.StartRecord [] [] xs ≡ next_record default_config st.StartRecord [] [] ys

-- the same of bytes that are known
abbrev pub SameNextKnown : Option (List ℕ) → Option (List ℕ) → Type 0
SameNextKnown None new = ⊤
SameNextKnown (Some xs) None = ⊥
SameNextKnown (Some xs) (Some ys) = SameNext xs ys

-- the first so many bytes are a record, whose fields are not quoted and end at these offsets, and the byte after them ends it, whatever
-- comes later
abbrev pub IsPlainRecord : List ℕ → ℕ → List ℕ → Type 0
IsPlainRecord bytes count ends =
    (count < length bytes) × EndsWithin (length bytes) 0 ends × ((more : List ℕ) → StartsWithRecord (bytes ++ more) (fields_from bytes 0 ends) (drop (count + 1) (bytes ++ more)))

-- a record was taken, or there is none
abbrev pub TakesRecord : Option (List ℕ) → Option (List ℕ) → Bool → List (List ℕ) → Type 0
TakesRecord None new found fields = ⊤
TakesRecord (Some xs) None found fields = ⊥
TakesRecord (Some xs) (Some ys) true fields = StartsWithRecord xs fields ys
TakesRecord (Some xs) (Some ys) false fields = next_record default_config st.StartRecord [] [] xs ≡ None

-- the bytes that are left lead to the same record as those before, from a state, with the fields so far and the bytes of the one at hand
abbrev pub LeadsOn : State → List (List ℕ) → List ℕ → Option (List ℕ) → Option (List ℕ) → Type 0
LeadsOn s fields field None new = ⊤
LeadsOn s fields field (Some xs) None = ⊥
LeadsOn s fields field (Some xs) (Some ys) = next_record default_config st.StartRecord [] [] xs ≡ next_record default_config s fields field ys
